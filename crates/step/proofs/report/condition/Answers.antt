-- `step::report::condition` meets its contract, by the field of its 2 bits.
use Rattle.std.proofs.Common.{rules, sym, ◌∙◌, arith, lt-ltb, le-ltb}
use Rattle.step.specs.Reader.{condition_report}
use Rattle.step.proofs.report.condition.Goals as goal

pub returns-in_default : goal.returns-in_default
unfolding condition_report
returns-in_default g c = rw (sym c.field_at.ensures ∙ c.in_default.is) (search rules)

pub returns-then-unknown : goal.returns-then-unknown
unfolding condition_report
returns-then-unknown g c = rw (sym c.field_at.ensures ∙ c.in-Some.is, le-ltb c.in-Some.code 3 (omega arith))

pub returns : goal.returns
unfolding condition_report
returns g c = rw (sym c.field_at.ensures ∙ c.in-Some.is, lt-ltb c.in-Some.code 3 (omega arith), c.condition.ensures)
