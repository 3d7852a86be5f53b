-- The bytes so far are stored.
use mathlib.Core.List.{List}
use mathlib.Core.Path.{refl, ap}
use Prim.Native.Nat.{ℕ, ◌+◌}
use native.Mathlib.Numerals.{add-one}
use lib.ListN.{set}
use Rattle.bits.specs.Window.{stored, byte_of}
use Rattle.bits.proofs.putting.store.Goals as goal

pub loop-i-init : goal.loop-i-init
unfolding stored
loop-i-init c = refl

pub loop-i-preserved : goal.loop-i-preserved
unfolding stored
loop-i-preserved c =
    let a = c.args in
    let i = c.loop-i.i in
    rw (add-one i) (ap (λ (l : List ℕ). set l (a.first + i) (byte_of a.window a.count i)) c.loop-i.invariant)
