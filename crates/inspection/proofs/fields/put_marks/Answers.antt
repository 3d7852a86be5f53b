-- `inspection::fields::put_marks` meets its contract. The loop's invariant: the first i marks are laid.
use Rattle.inspection.specs.Marks.{lays_no_marks, lays_next_mark}
use Rattle.inspection.proofs.fields.put_marks.Goals as goal

pub loop-i-init : goal.loop-i-init
loop-i-init c = search lays_no_marks

pub loop-i-preserved : goal.loop-i-preserved
loop-i-preserved c = search lays_next_mark
