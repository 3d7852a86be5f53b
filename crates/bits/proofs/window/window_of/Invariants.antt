-- The loop's invariant: the number is what the first i bytes of the window make.
use mathlib.Core.Path.{◌≡◌}
use Prim.Native.Nat.{◌*◌}
use Rattle.bits.specs.Bits.{bits_at}
use Rattle.bits.proofs.window.window_of.Given as goal

abbrev pub invariant-loop-i : goal.invariant-loop-i
invariant-loop-i l = l.number ≡ bits_at l.s (8 * l.first) (8 * l.i)
