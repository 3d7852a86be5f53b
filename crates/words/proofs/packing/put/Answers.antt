-- The words of the slots before k are stored.
use mathlib.Core.Path.{refl, ap, ◌∙◌}
use Prim.Native.Nat.{ℕ, ◌+◌}
use native.Mathlib.Numerals.{add-one}
use native.Mathlib.Omega.{arith}
use lib.ListN.{get_or, set}
use Rattle.std.proofs.lemmas.List.{get_or_default}
use Rattle.bits.specs.Window.{stored}
use Rattle.words.proofs.packing.put.Goals as goal

pub loop-k-init : goal.loop-k-init
unfolding stored
loop-k-init g c f d gives = refl

pub loop-k-preserved : goal.loop-k-preserved
unfolding stored
loop-k-preserved g c f d gives =
    let k : ℕ = c.loop-k.k in
    let here = gives c.index-slots-k.result c.word.result c.word.ensures ∙ ap f (c.index-slots-k.is ∙ get_or_default c.args.slots.now k _ d (omega arith)) in
    rw (add-one k) (λ i. set (c.loop-k.invariant f d gives i) (c.args.at + k) (here i))

pub returns : goal.returns
returns g c f d gives =
    c.loop-k.invariant f d gives ∙ ap (stored c.args.state.now c.args.at (λ (k : ℕ). f (get_or c.args.slots.now k d))) (omega arith)
