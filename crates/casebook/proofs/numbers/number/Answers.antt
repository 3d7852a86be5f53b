-- Seven bytes or fewer come before one more, and their number is below 2^56.
use Prim.Native.Nat.{suc}
use Rattle.std.specs.Prelude.{refl}
use Rattle.std.proofs.Common.{rules, arith, ◌≡◌, ◌<◌, ◌≤◌, ◌^◌, ℕ, ◌*◌, ◌+◌}
use Rattle.std.proofs.Math.Nat.{pow-le-pow_right, pow-suc}
use Rattle.casebook.specs.Cases.{number_of}
use Rattle.casebook.proofs.numbers.number.Goals as goal

short : (i : ℕ) → i < 8 → 256 ^ i ≤ 72057594037927936
short i less = pow-le-pow_right {n = 256} (omega arith) {i = i} {j = 7} (omega (arith, less))

plus_one : (i : ℕ) → i + 1 ≡ suc i
plus_one i = omega arith

fits : (i n b : ℕ) → n < 256 ^ i → b < 256 → n * 256 + b < 256 ^ (i + 1)
fits i n b less byte = rw (plus_one i) (omega (arith, pow-suc 256 i, less, byte))

pub loop-i-init : goal.loop-i-init
unfolding number_of
loop-i-init c = search rules

pub overflow_mul-number : goal.overflow_mul-number
overflow_mul-number c = omega (arith, short c.loop-i.i (omega arith))

pub overflow_add-number : goal.overflow_add-number
overflow_add-number c = omega (arith, short c.loop-i.i (omega arith))

pub loop-i-preserved : goal.loop-i-preserved
unfolding number_of
loop-i-preserved c = (rw (plus_one c.loop-i.i, c.loop-i.invariant.0, c.byte.ensures) refl, fits c.loop-i.i c.loop-i.number c.byte.result c.loop-i.invariant.1 (omega arith))
