-- "The team proves that two replies allowed by the statement are equal": the public function's own contract gives its reply.
use Rattle.replies.specs.Replies.{Determined, by_value}
use Rattle.refusals.proofs.U8FromRefusal.from.Reads as number

pub refusals : Determined number.Post
refusals = by_value
