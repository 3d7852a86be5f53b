-- `hearing::reading::hear` meets its contract: the time and the report count are fields, and the reports decide the rest.
use Rattle.std.proofs.Common.{◌≡◌, ◌≤◌, Some, refl, sym, ◌∙◌, rules, arith}
use Rattle.std.proofs.lemmas.Bool.{lt-leb}
use Rattle.bits.specs.Bits.{field_at}
use Rattle.bits.specs.Fields.{there_lt}
use Rattle.step.specs.Reader.{read_step, time_first}
use Rattle.step.specs.Stages.{after_count, time_cut, count_cut, on_count}
use Rattle.hearing.specs.Lent.{lent}
use Rattle.hearing.specs.Whole.{heard_refused, heard_stopped, heard_passed}
use Rattle.hearing.proofs.reading.hear.Goals.{In-Some, In-Some-field_at}
use Rattle.hearing.proofs.reading.hear.Goals as goal

-- the time that was taken
time-is : (k : In-Some) → field_at k.args.s.now 0 47 ≡ Some k.in-Some.time
time-is k = sym k.field_at.ensures ∙ k.in-Some.is

-- the report count that was taken
count-is : (k : In-Some-field_at) → field_at k.args.s.now 47 6 ≡ Some k.in-Some-field_at.count
count-is k = sym k.field_at-2.ensures ∙ k.in-Some-field_at.is

pub returns-in_default : goal.returns-in_default
returns-in_default c t counted are empty =
    let a = c.args in
    heard_refused t a.q a.events.now counted are a.earliest a.s.now _ _
    (time_cut (lent a.q a.events.now) a.earliest a.s.now (sym c.field_at.ensures ∙ c.in_default.is)) refl

pub returns-then-time-earliest : goal.returns-then-time-earliest
returns-then-time-earliest c t counted are empty =
    let a = c.args in
    let time = c.in-Some.time in
    heard_refused t a.q a.events.now counted are a.earliest a.s.now _ _
    (time_first (lent a.q a.events.now) a.earliest time a.s.now (time-is (goal.at.returns-then-time-earliest c).In-Some)
    (lt-leb a.earliest time (omega arith))) refl

pub returns-in_default-field_at : goal.returns-in_default-field_at
returns-in_default-field_at c t counted are empty =
    let a = c.args in
    heard_refused t a.q a.events.now counted are a.earliest a.s.now _ _
    (count_cut (lent a.q a.events.now) a.earliest a.s.now c.in-Some.time (time-is (goal.at.returns-in_default-field_at c).In-Some) (omega arith)
    (sym c.field_at-2.ensures ∙ c.in_default-field_at.is)) refl

pub reports-requires : goal.reports-requires
reports-requires c = omega (arith, there_lt _ 47 6 _ (count-is (goal.at.reports-requires c).In-Some-field_at))

-- the reports decide
goes-on : (k : In-Some-field_at) → let a = k.args in
    a.earliest ≤ k.in-Some.time
    → read_step (lent a.q a.events.now) a.earliest a.s.now 0 ≡ after_count (lent a.q a.events.now) k.in-Some.time k.in-Some-field_at.count a.s.now
goes-on k late =
    let a = k.args in
    on_count (lent a.q a.events.now) a.earliest a.s.now k.in-Some.time (sym k.field_at.ensures ∙ k.in-Some.is) late k.in-Some-field_at.count (count-is k)

pub returns-in_err-reports : goal.returns-in_err-reports
returns-in_err-reports c t counted are empty =
    let a = c.args in
    heard_stopped t a.q a.events.now counted are a.earliest a.s.now c.in-Some.time c.in-Some-field_at.count
    (goes-on (goal.at.returns-in_err-reports c).In-Some-field_at (omega arith)) c.from_residual.result _ (search rules) (c.in_err-reports.ensures empty)

pub returns : goal.returns
returns c t counted are empty =
    let a = c.args in
    heard_passed t a.q a.events.now counted are a.earliest a.s.now c.in-Some.time c.in-Some-field_at.count
    (goes-on (goal.at.returns c).In-Some-field_at (omega arith)) (c.in_ok-reports.ensures empty)
