-- The part where the text stands, as the pass over the script found it.
use mathlib.Core.List.{List}
use mathlib.Core.Path.{◌≡◌, ap}
use Prim.Native.Nat.{ℕ}
use native.Mathlib.Omega.{arith}
use Rattle.script.specs.declared.Label.{Label}
use Rattle.script.specs.Reader.{label_of}
use Rattle.parts.specs.Within.{Inside, part_inside, label_of_inside}
use Rattle.parts.proofs.label.Goals as goal

-- the part that was found stands within the bytes
inside : (bytes : List ℕ) (k : ℕ) (found : Label) → found ≡ label_of bytes k → Inside bytes found.span
inside bytes k found is = part_inside bytes (ap (λ (x : Label). x.span) is) (label_of_inside bytes k)

pub overflow_add-end : goal.overflow_add-end
overflow_add-end c =
    let h = inside c.args.s.now _ c.find_label-found.result c.find_label-found.ensures in record { fits = omega arith }

pub slice_bounds-result-end : goal.slice_bounds-result-end
slice_bounds-result-end c =
    let h = inside c.args.s.now _ c.find_label-found.result c.find_label-found.ensures in omega arith
