-- `step::reading::reports` meets its contract, by the reports so far and what they tell.
use Rattle.std.proofs.Common.{refl, sym, rules, arith}
use Rattle.step.specs.Stages.{taken_refused}
use Rattle.step.specs.Hearing.{next_report, heard_refused, Reported, heard_report, next_rising}
use Rattle.step.specs.SoFar.{heard_none, end_refused, end_accepted, next_stops, next_stored, next_past}
use Rattle.step.proofs.reading.reports.Goals.{then-i-lt-IMPORTS, else-i-lt-IMPORTS}
use Rattle.step.proofs.reading.reports.Goals as goal

-- an array has the length that its type gives it
pub loop-k-init : goal.loop-k-init
loop-k-init c = heard_none c.args.t c.args.count c.args.earlier c.args.s.now (omega arith) (omega arith)

pub returns-in_err-report : goal.returns-in_err-report
returns-in_err-report c =
    taken_refused c.args.earlier c.from_residual.result _ (search rules)
    (next_stops c.loop-k.invariant (omega arith) c.args.time _ (heard_refused _ _ _ (sym (c.in_err-report.ensures c.args.t refl refl))))

pub overflow_add-least : goal.overflow_add-least
overflow_add-least c =
    let heard : Reported (λ told. told) (next_report c.args.t c.loop-k.least c.args.s.now c.loop-k.at) c.in_ok-report.report = heard_report _ _ _ (sym (c.in_ok-report.ensures c.args.t refl refl)) in
    omega (arith, ((next_rising _ _ _ _).told _ _ heard.is).narrow, heard.imports)

pub loop-k-preserved : goal.loop-k-preserved
loop-k-preserved c =
    let so_far = c.loop-k.invariant in
    let heard = heard_report _ _ _ (sym (c.in_ok-report.ensures c.args.t refl refl)) in
    elim c.if-i-lt-IMPORTS.branch [
      | then-i-lt-IMPORTS w ↦ next_stored so_far (omega arith) heard refl refl (omega arith) w.told-is w.reported-is w.reported_now.ensures
      | else-i-lt-IMPORTS w ↦ next_past so_far (omega arith) heard refl refl (omega arith) (omega arith) w.told-is w.reported-is
    ]

pub returns-in_err-close : goal.returns-in_err-close
returns-in_err-close c =
    taken_refused c.args.earlier c.from_residual-in_err-close.result _ (search rules) (end_refused c.loop-k.invariant c.args.time (omega arith) _ (sym c.in_err-close.ensures))

pub returns : goal.returns
returns c = sym (end_accepted c.loop-k.invariant c.args.time (omega arith) (sym c.in_ok-close.ensures))
