-- The loop's invariant: the words of the reports so far.
use Rattle.std.proofs.Common.{◌-◌}
use Rattle.hearing.specs.Lent.{lent}
use Rattle.hearing.specs.Gathering.{Gathers}
use Rattle.hearing.proofs.reading.reports.Given as goal

abbrev pub invariant-loop-k : goal.invariant-loop-k
invariant-loop-k l = Gathers (lent l.q l.events) l.count l.s l.initial.told l.told l.at l.least (l.count - l.k)
