-- "The team proves that two replies allowed by the statement are equal": each public function's own contract gives its reply.
use Rattle.replies.specs.Replies.{Determined, by_value}
use Rattle.monitor.proofs.kept.unsound.Reads as unsound
use Rattle.monitor.proofs.start.Reads as start
use Rattle.monitor.proofs.step.Reads as step

pub monitoring : Determined unsound.Post × Determined start.Post × Determined step.Post
monitoring = (by_value, by_value, by_value)
