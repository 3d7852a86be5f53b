-- Nothing is shifted out of the window's 64 bits.
use native.Mathlib.Omega.{arith}
use Rattle.bits.proofs.Shifts.{joined_small, whole_replaced}
use Rattle.bits.proofs.putting.replace.Goals as goal

pub overflow_add-with : goal.overflow_add-with
overflow_add-with c = record { fits = joined_small _ c.args.w _ (omega arith) }

pub overflow_add-result : goal.overflow_add-result
overflow_add-result c = record { fits = joined_small _ c.args.spare _ (omega arith) }

pub returns : goal.returns
returns c = whole_replaced c.args.window c.args.w c.args.spare c.args.v (omega arith) (omega arith) (omega arith) (omega arith)
