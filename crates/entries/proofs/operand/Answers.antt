-- `entries::operand` meets its contract: a field that is there ends within the script's bytes.
use mathlib.Core.Path.{sym, ◌∙◌}
use native.Mathlib.Omega.{arith}
use Rattle.bits.specs.Fields.{there_ends}
use Rattle.entries.proofs.operand.Goals as goal

pub overflow_add-result : goal.overflow_add-result
overflow_add-result c = omega (arith, there_ends c.args.s.now _ _ _ (sym c.field_at.ensures ∙ c.in-Some.is), c.requires)
