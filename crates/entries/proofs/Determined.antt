-- "The team proves that two replies allowed by the statement are equal": the public function's own contract gives its reply.
use Rattle.replies.specs.Replies.{Determined, by_value}
use Rattle.entries.proofs.read.Reads as read

pub entries : Determined read.Post
entries = by_value
