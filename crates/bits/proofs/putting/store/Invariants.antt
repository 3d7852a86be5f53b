-- The bytes so far are stored.
use mathlib.Core.Path.{◌≡◌}
use Rattle.bits.specs.Window.{stored, byte_of}
use Rattle.bits.proofs.putting.store.Given as goal

abbrev pub invariant-loop-i : goal.invariant-loop-i
invariant-loop-i l = l.s ≡ stored l.initial.s l.first (byte_of l.window l.count) l.i
