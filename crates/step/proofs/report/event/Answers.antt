-- `step::report::event` meets its contract, by the field of its bit and the field of its value.
use Rattle.std.proofs.Common.{rules, sym, ◌∙◌, arith, eq-eqb, ne_eqb}
use Rattle.bits.specs.Fields.{there_lt}
use Rattle.step.specs.Reader.{event_report}
use Rattle.step.proofs.report.event.Goals as goal

pub returns-in_default : goal.returns-in_default
unfolding event_report
returns-in_default g c = rw (sym c.field_at.ensures ∙ c.in_default.is) (search rules)

pub returns-then-bit-ne1 : goal.returns-then-bit-ne1
unfolding event_report
returns-then-bit-ne1 g c =
    rw (sym c.field_at.ensures ∙ c.in-Some.is, ne_eqb c.in-Some.bit 1 (λ e. omega arith), c.event.ensures)

pub returns-in_default-field_at : goal.returns-in_default-field_at
unfolding event_report
returns-in_default-field_at g c =
    rw (sym c.field_at.ensures ∙ c.in-Some.is, eq-eqb c.in-Some.bit 1 (omega arith), sym c.field_at-2.ensures ∙ c.in_default-field_at.is)
    (search rules)

-- the value that was taken has 48 bits
pub valued-requires : goal.valued-requires
valued-requires g c = omega (arith, there_lt _ _ 48 _ (sym c.field_at-2.ensures ∙ c.in-Some-field_at.is))

pub returns : goal.returns
unfolding event_report
returns g c =
    rw (sym c.field_at.ensures ∙ c.in-Some.is, eq-eqb c.in-Some.bit 1 (omega arith), sym c.field_at-2.ensures ∙ c.in-Some-field_at.is, c.valued.ensures)
