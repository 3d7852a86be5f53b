-- "The team proves that two replies allowed by the statement are equal": each public function's own contract gives its reply.
use Rattle.replies.specs.Replies.{Determined, by_value}
use Rattle.kinds.proofs.apart_of.Reads as Apart-of
use Rattle.kinds.proofs.made.Reads as made
use Rattle.kinds.proofs.sort_of_kind.Reads as sort_of_kind_lem
use Rattle.kinds.proofs.Operand.width.Reads as width
use Rattle.kinds.proofs.Operand.number.Reads as number
use Rattle.kinds.proofs.Operand.holding.Reads as holding

pub entries : Determined Apart-of.Post × Determined made.Post × Determined sort_of_kind_lem.Post
entries = (by_value, by_value, by_value)

pub operands : Determined width.Post × Determined number.Post × Determined holding.Post
operands = (by_value, by_value, by_value)
