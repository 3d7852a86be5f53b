-- The words of the slots before k are stored.
use mathlib.Core.Path.{◌≡◌}
use Prim.Native.Nat.{ℕ}
use lib.ListN.{get_or}
use Rattle.bits.specs.Window.{stored}
use Rattle.words.proofs.packing.put.Given as goal

abbrev pub invariant-loop-k : goal.invariant-loop-k
invariant-loop-k g l =
    (f : _ → ℕ) (d : _) → ((x : _) (r : ℕ) → goal.F-post g l.word x r → r ≡ f x)
    → l.state ≡ stored l.initial.state l.at (λ k. f (get_or l.slots k d)) l.k
