-- `hearing::reading::next_report` meets its contract: its import number, and what follows it.
use Rattle.std.proofs.Common.{Bool, ◌≡◌, refl, sym, ◌∙◌, ap, rules, ◌+◌}
use Rattle.table.specs.declared.Table.{Table}
use Rattle.table.specs.Tables.{is_event}
use Rattle.step.specs.Reader.{report_for}
use Rattle.step.specs.Hearing.{heard_of, about, next_refused, next_given, import_narrow}
use Rattle.hearing.specs.Lent.{lent, lent_event}
use Rattle.hearing.specs.Nexts.{as_word}
use Rattle.hearing.proofs.reading.next_report.Goals as goal

pub returns-in_err-i : goal.returns-in_err-i
returns-in_err-i c =
    let a = c.args in
    let t : Table = lent a.q a.events.now in
    rw (next_refused t a.least a.s.now a.at _ (sym (c.in_err-i.ensures t refl))) (search rules)

pub returns : goal.returns
returns c =
    let a = c.args in
    let t : Table = lent a.q a.events.now in
    let i = c.in_ok-i.i in
    let given = sym (c.in_ok-i.ensures t refl) in
    let event : c.is_event.result ≡ is_event t i = c.is_event.ensures ∙ sym (lent_event a.q a.events.now i (import_narrow t a.least a.s.now a.at i given)) in
    rw (next_given t a.least a.s.now a.at i given)
    (c.report_for.ensures ∙ ap (λ (b : Bool). heard_of as_word (about i (report_for b a.s.now (a.at + 6)))) event)
