-- `hearing::reading::reports` meets its contract, by the words of the reports so far.
use Rattle.std.proofs.Common.{refl, sym, rules, arith}
use Rattle.step.specs.Hearing.{next_report, heard_refused, Reported, heard_report, next_rising}
use Rattle.hearing.specs.Lent.{lent}
use Rattle.hearing.specs.Nexts.{as_word}
use Rattle.hearing.specs.Gathering.{gathers_none, gathers_stops, gathers_ends, gathers_more}
use Rattle.hearing.proofs.reading.reports.Goals.{In_ok-report}
use Rattle.hearing.proofs.reading.reports.Goals as goal

pub loop-k-init : goal.loop-k-init
loop-k-init c = gathers_none _ _ _ _ (omega arith)

pub returns-in_err-report : goal.returns-in_err-report
returns-in_err-report c empty =
    gathers_stops c.loop-k.invariant (omega arith) c.from_residual.result _ (search rules) (heard_refused as_word _ _ (sym c.in_err-report.ensures)) empty

-- the report that was heard
heard : (k : In_ok-report)
    → Reported as_word (next_report (lent k.args.q k.args.events.now) k.loop-k.least k.args.s.now k.loop-k.at) k.in_ok-report.report
heard k = heard_report as_word _ _ (sym k.in_ok-report.ensures)

pub overflow_add-least : goal.overflow_add-least
overflow_add-least c =
    let told = heard (goal.at.overflow_add-least c).In_ok-report in
    omega (arith, ((next_rising _ _ _ _).told _ _ told.is).narrow, told.imports)

pub loop-k-preserved : goal.loop-k-preserved
loop-k-preserved c =
    gathers_more c.loop-k.invariant (omega arith) (heard (goal.at.loop-k-preserved c).In_ok-report) c.keep.ensures refl (omega arith) (omega arith)

pub returns : goal.returns
returns c empty = gathers_ends c.loop-k.invariant (omega arith) _ c.close.ensures empty
