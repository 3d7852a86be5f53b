-- "The team proves that two replies allowed by the statement are equal": each public function's own contract gives its reply.
use Rattle.replies.specs.Replies.{Determined, by_value}
use Rattle.labels.proofs.read.Reads as read
use Rattle.labels.proofs.counting.before.Reads as before
use Rattle.labels.proofs.counting.labelled.Reads as labelled

pub reading : Determined read.Post
reading = by_value

pub counting : Determined before.Post × Determined labelled.Post
counting = (by_value, by_value)
