-- `inspection::fields::put_marks` meets its contract. The loop's invariant: the first i marks are laid.
use lib.ListN.{take}
use Rattle.lines.specs.Laying.{Lays}
use Rattle.inspection.specs.Marks.{marks_text}
use Rattle.inspection.proofs.fields.put_marks.Given as goal

abbrev pub invariant-loop-i : goal.invariant-loop-i
invariant-loop-i l = Lays l.initial.out l.at (marks_text 0 (take l.i l.marks)) l.out l.next
