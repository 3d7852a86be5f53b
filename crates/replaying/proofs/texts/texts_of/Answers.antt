-- `replaying::texts::texts_of` meets its contract. The loop's invariant: the texts and sizes of the first k entries are there.
use native.Mathlib.Omega.{arith}
use Rattle.replaying.specs.Texts.{kept_none, kept_all}
use Rattle.replaying.proofs.texts.texts_of.Goals as goal

pub returns : goal.returns
returns c = kept_all c.loop-k.invariant (omega arith)

pub loop-k-init : goal.loop-k-init
loop-k-init c = kept_none _
