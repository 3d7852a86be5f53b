-- `entries::read` meets its contract: a kind that is there ends within the script's bytes.
use mathlib.Core.Path.{sym, ◌∙◌}
use native.Mathlib.Omega.{arith}
use Rattle.bits.specs.Fields.{there_ends}
use Rattle.entries.proofs.read.Goals as goal

pub overflow_add-start : goal.overflow_add-start
overflow_add-start c = omega (arith, there_ends c.args.s.now _ _ _ (sym c.field_at.ensures ∙ c.in-Some.is), c.if-too_long.false)
