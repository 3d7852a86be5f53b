-- `inplace::taking::keep_reports` meets its contract. The loop's invariant: the reports of the first i imports are kept.
use Rattle.inplace.specs.Reporting.{reporting_none, reporting_more}
use Rattle.inplace.proofs.taking.keep_reports.Goals as goal

pub loop-i-init : goal.loop-i-init
loop-i-init c = search reporting_none

pub loop-i-preserved : goal.loop-i-preserved
loop-i-preserved c = search reporting_more
