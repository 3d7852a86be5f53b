-- `words::packing::put_counts` meets its contract: four stores.
use mathlib.Core.Path.{refl}
use Rattle.bits.specs.Window.{stored}
use Rattle.words.proofs.packing.put_counts.Goals as goal

pub returns : goal.returns
unfolding stored
returns c = refl
