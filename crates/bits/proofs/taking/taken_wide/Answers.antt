-- The window holds the field.
use Prim.Native.Nat.{ℕ, ◌*◌, ◌-◌}
use native.Mathlib.Nat.{one-mul}
use native.Mathlib.Omega.{arith}
use lib.Bits.{and_mask}
use lib.Pow.{shl_exact}
use Rattle.bits.specs.Octets.{window_shifted}
use Rattle.bits.proofs.taking.taken_wide.Goals as goal

pub returns : goal.returns
returns c =
    let a = c.args in
    let begins : ℕ = 8 * c.base_of-base.result in
    let after : ℕ = 64 - (a.at - begins) - a.w in
    rw (shl_exact {a = 1} 1 c.args.w 64 (omega arith) (omega arith), one-mul, and_mask, c.eight-window.ensures)
    (window_shifted a.s.now begins 64 a.at a.w after (omega arith) (omega arith))
