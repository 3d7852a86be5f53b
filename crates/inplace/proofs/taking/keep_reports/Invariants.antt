-- `inplace::taking::keep_reports` meets its contract. The loop's invariant: the reports of the first i imports are kept.
use Rattle.inplace.specs.Reporting.{Reporting}
use Rattle.inplace.proofs.taking.keep_reports.Given as goal

abbrev pub invariant-loop-i : goal.invariant-loop-i
invariant-loop-i l = Reporting l.told l.q l.initial.state l.i l.state
