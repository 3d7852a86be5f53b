-- `step::reading::next_report` meets its contract: its import number, and what follows it.
use Rattle.std.proofs.Common.{Bool, false, List, ◌≡◌, sym, ◌∙◌, ap, rules, get_or, ◌+◌}
use Rattle.table.specs.Tables.{is_event}
use Rattle.step.specs.Reader.{report_for}
use Rattle.step.specs.Hearing.{heard_of, about, next_refused, next_given}
use Rattle.step.proofs.reading.next_report.Goals as goal

pub returns-in_err-i : goal.returns-in_err-i
returns-in_err-i c t q-is events-are =
    rw (next_refused t c.args.least c.args.s.now c.args.at _ (sym (c.in_err-i.ensures t q-is))) (search rules)

pub returns : goal.returns
unfolding is_event
returns c t q-is events-are =
    let a = c.args in
    let i = c.in_ok-i.i in
    let event : c.is_event.result ≡ is_event t i = c.is_event.ensures ∙ ap (λ (l : List Bool). get_or l i false) (sym events-are) in
    rw (next_given t a.least a.s.now a.at i (sym (c.in_ok-i.ensures t q-is)))
    (c.report_for.ensures ∙ ap (λ (b : Bool). heard_of (λ told. told) (about i (report_for b a.s.now (a.at + 6)))) event)
