-- The bytes that the field touches hold it.
use native.Mathlib.Nat.{one-mul}
use native.Mathlib.Omega.{arith}
use lib.Bits.{and_mask}
use lib.Pow.{shl_exact}
use Rattle.bits.specs.Octets.{window_field}
use Rattle.bits.proofs.taking.taken_short.Goals as goal

pub returns : goal.returns
returns c =
    rw (shl_exact {a = 1} 1 c.args.w 64 (omega arith) (omega arith), one-mul, and_mask, c.window_of-number.ensures)
    (window_field _ _ _ _ _ _ (omega arith) (omega arith))
