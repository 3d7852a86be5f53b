-- `kinds::made` meets its contract: past the kinds' numbers the list of entries has ended.
use mathlib.Core.Path.{sym}
use native.Mathlib.Omega.{arith}
use Rattle.kinds.specs.Laws.{past_kinds}
use Rattle.kinds.proofs.made.Goals as goal

pub returns-in_default : goal.returns-in_default
returns-in_default c = let a = c.args in sym (past_kinds a.kind a.a a.b a.c a.z (omega arith))
