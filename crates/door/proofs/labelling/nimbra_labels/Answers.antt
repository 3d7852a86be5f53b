-- `door::labelling::nimbra_labels` meets its contract: the size of the place, then what was found.
use native.Mathlib.Omega.{arith}
use Rattle.door.specs.Labelling.{labels_size, labels_shown}
use Rattle.door.proofs.labelling.nimbra_labels.Goals as goal

pub returns-then-place-ne2 : goal.returns-then-place-ne2
returns-then-place-ne2 c = labels_size _ _ (λ e. omega arith)

pub returns : goal.returns
returns c = search labels_shown
