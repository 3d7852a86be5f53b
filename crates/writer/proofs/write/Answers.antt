-- `writer::write` meets its contract: a refused write changes nothing, an accepted one fills.
use Rattle.writer.specs.Writing.{writable_told, written_reply_lem, written_bytes_lem, refused_reply, refused_bytes}
use Rattle.writer.proofs.write.Goals as goal

pub fill-requires : goal.fill-requires
fill-requires c = search writable_told

pub returns-in-Err-clause-reply : goal.returns-in-Err-clause-reply
returns-in-Err-clause-reply c = search refused_reply

pub returns-in-Err-clause-bytes : goal.returns-in-Err-clause-bytes
returns-in-Err-clause-bytes c = search refused_bytes

pub returns-in-Ok-clause-reply : goal.returns-in-Ok-clause-reply
returns-in-Ok-clause-reply c = search written_reply_lem

pub returns-in-Ok-clause-bytes : goal.returns-in-Ok-clause-bytes
returns-in-Ok-clause-bytes c = search written_bytes_lem
