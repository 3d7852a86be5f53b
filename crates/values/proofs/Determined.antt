-- "The team proves that two replies allowed by the statement are equal": each public function's own contract gives its reply.
use Rattle.replies.specs.Replies.{Determined, by_value}
use Rattle.values.proofs.Truth.not.Reads as not
use Rattle.values.proofs.Truth.or.Reads as or
use Rattle.values.proofs.Truth.and.Reads as and
use Rattle.values.proofs.Truth.implies.Reads as implies
use Rattle.values.proofs.Truth.defined.Reads as defined
use Rattle.values.proofs.Truth.is_true.Reads as is_true
use Rattle.values.proofs.Truth.is_false.Reads as is_false
use Rattle.values.proofs.truths.TruthFromBool.from.Reads as of
use Rattle.values.proofs.Number.sum.Reads as sum
use Rattle.values.proofs.Number.difference.Reads as difference
use Rattle.values.proofs.Number.less.Reads as less
use Rattle.values.proofs.Number.equal.Reads as equal
use Rattle.values.proofs.Number.in_range.Reads as in-range
use Rattle.values.proofs.Outcome.condition.Reads as condition
use Rattle.values.proofs.Outcome.event.Reads as event
use Rattle.values.proofs.Outcome.number.Reads as number
use Rattle.values.proofs.Outcome.done.Reads as done

pub conditions : Determined not.Post × Determined or.Post × Determined and.Post × Determined implies.Post × Determined defined.Post
conditions = (by_value, by_value, by_value, by_value, by_value)

pub tests : Determined is_true.Post × Determined is_false.Post × Determined of.Post
tests = (by_value, by_value, by_value)

pub numbers : Determined sum.Post × Determined difference.Post × Determined less.Post × Determined equal.Post × Determined in-range.Post
numbers = (by_value, by_value, by_value, by_value, by_value)

pub operands : Determined condition.Post × Determined event.Post × Determined number.Post × Determined done.Post
operands = (by_value, by_value, by_value, by_value)
