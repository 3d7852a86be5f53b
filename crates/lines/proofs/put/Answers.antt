-- `lines::put` meets its contract. The loop's invariant: the bytes of the text so far are laid.
use Rattle.lines.specs.Laying.{lays_none, lays_next}
use Rattle.lines.proofs.put.Goals as goal

pub loop-b-init : goal.loop-b-init
loop-b-init c = lays_none _ _

pub loop-b-preserved : goal.loop-b-preserved
loop-b-preserved c = search lays_next
