-- `door::labelling::nimbra_label` meets its contract: the size of the place, then what was found.
use native.Mathlib.Omega.{arith}
use Rattle.door.specs.Labelling.{label_size_lem, label_shown}
use Rattle.door.proofs.labelling.nimbra_label.Goals as goal

pub returns-then-place-ne2 : goal.returns-then-place-ne2
returns-then-place-ne2 c = label_size_lem _ _ _ (λ e. omega arith)

pub returns : goal.returns
returns c = search label_shown
