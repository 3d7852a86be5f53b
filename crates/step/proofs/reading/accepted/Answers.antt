-- `step::reading::accepted` meets its contract: the time and the report count are fields, and the reports decide the rest.
use Rattle.std.proofs.Common.{◌≡◌, Some, ap, sym, ◌∙◌, rules, arith}
use Rattle.std.proofs.lemmas.Bool.{lt-leb}
use Rattle.bits.specs.Bits.{field_at}
use Rattle.bits.specs.Fields.{there_lt}
use Rattle.step.specs.Reader.{time_first}
use Rattle.step.specs.Taking.{taken_of}
use Rattle.step.specs.Stages.{taken_refused, time_cut, count_cut, on_count}
use Rattle.step.proofs.reading.accepted.Goals.{In-Some, In-Some-field_at}
use Rattle.step.proofs.reading.accepted.Goals as goal

-- the time that was taken
time-is : (k : In-Some) → field_at k.args.s.now 0 47 ≡ Some k.in-Some.time
time-is k = sym k.field_at.ensures ∙ k.in-Some.is

-- the report count that was taken
count-is : (k : In-Some-field_at) → field_at k.args.s.now 47 6 ≡ Some k.in-Some-field_at.count
count-is k = sym k.field_at-2.ensures ∙ k.in-Some-field_at.is

pub returns-in_default : goal.returns-in_default
returns-in_default c =
    let a = c.args in
    sym (ap (taken_of a.reported) (time_cut a.t a.earliest a.s.now (sym c.field_at.ensures ∙ c.in_default.is)))

pub returns-then-time-earliest : goal.returns-then-time-earliest
returns-then-time-earliest c =
    let a = c.args in
    let time = c.in-Some.time in
    sym
    (ap (taken_of a.reported)
    (time_first a.t a.earliest time a.s.now (time-is (goal.at.returns-then-time-earliest c).In-Some) (lt-leb a.earliest time (omega arith))))

pub returns-in_default-field_at : goal.returns-in_default-field_at
returns-in_default-field_at c =
    let a = c.args in
    sym
    (ap (taken_of a.reported)
    (count_cut a.t a.earliest a.s.now c.in-Some.time (time-is (goal.at.returns-in_default-field_at c).In-Some) (omega arith)
    (sym c.field_at-2.ensures ∙ c.in_default-field_at.is)))

pub reports-requires : goal.reports-requires
reports-requires c = omega (arith, there_lt _ 47 6 _ (count-is c))

pub returns : goal.returns
returns c =
    let a = c.args in
    c.reports.ensures
    ∙ sym
    (ap (taken_of a.reported)
    (on_count a.t a.earliest a.s.now c.in-Some.time (time-is (goal.at.returns c).In-Some) (omega arith) c.in-Some-field_at.count
    (count-is (goal.at.returns c).In-Some-field_at)))
