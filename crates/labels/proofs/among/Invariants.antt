-- `labels::among` meets its contract. The loop's invariant: j labels are passed.
use Rattle.labels.specs.Passed.{Passed}
use Rattle.labels.proofs.among.Given as goal

abbrev pub invariant-loop-j : goal.invariant-loop-j
invariant-loop-j l = Passed l.s l.from l.count l.wanted l.at l.span l.j
