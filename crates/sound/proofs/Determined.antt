-- "The team proves that two replies allowed by the statement are equal": each public function's own contract gives its reply.
use Rattle.replies.specs.Replies.{Determined, by_value}
use Rattle.sound.proofs.judging.Known.judge.Reads as judge
use Rattle.sound.proofs.fault.Reads as fault

pub faults : Determined judge.Post × Determined fault.Post
faults = (by_value, by_value)
