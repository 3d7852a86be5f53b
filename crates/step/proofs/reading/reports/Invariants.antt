-- The loop's invariant: the reports so far, and what they tell.
use Rattle.std.proofs.Common.{◌-◌}
use Rattle.step.specs.SoFar.{SoFar}
use Rattle.step.proofs.reading.reports.Given as goal

abbrev pub invariant-loop-k : goal.invariant-loop-k
invariant-loop-k l = SoFar l.t l.count l.earlier l.s l.told l.reported l.at l.least (l.count - l.k)
