-- `door::reaching::put_marks` meets its contract. The loop's invariant: the first k marks are laid down.
use Rattle.door.specs.Marking.{Marking}
use Rattle.door.proofs.reaching.put_marks.Given as goal

abbrev pub invariant-loop-k : goal.invariant-loop-k
invariant-loop-k l = Marking l.marks l.at l.initial.out l.out l.k
