-- `door::reaching::put_marks` meets its contract. The loop's invariant: the first k marks are laid down.
use Rattle.door.specs.Marking.{marking_none, marking_more}
use Rattle.door.proofs.reaching.put_marks.Goals as goal

pub loop-k-init : goal.loop-k-init
loop-k-init c = search marking_none

pub loop-k-preserved : goal.loop-k-preserved
loop-k-preserved c = search marking_more
