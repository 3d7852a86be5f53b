-- "The team proves that two replies allowed by the statement are equal": each public function's own contract gives its reply.
use Rattle.replies.specs.Replies.{Determined, by_value}
use Rattle.memory.proofs.remembering.memory_of.Reads as memory-of
use Rattle.memory.proofs.cells.remember.Reads as remember
use Rattle.memory.proofs.recalling.givens.Reads as givens

pub remembering : Determined memory-of.Post × Determined remember.Post
remembering = (by_value, by_value)

pub recalling : Determined givens.Post
recalling = by_value
