-- `step::report::import` meets its contract, by the field of the import number.
use Rattle.std.proofs.Common.{sym, ◌∙◌, arith, lt-ltb, le-ltb, le-leb}
use Rattle.std.proofs.lemmas.Bool.{lt-leb}
use Rattle.step.specs.Reader.{import_fault}
use Rattle.step.proofs.report.import.Goals as goal

pub returns-then-q-i : goal.returns-then-q-i
unfolding import_fault
returns-then-q-i c t q-is = rw (sym c.field_at.ensures ∙ c.in-Some.is, le-ltb c.in-Some.i t.q (omega arith))

pub returns-then-i-least : goal.returns-then-i-least
unfolding import_fault
returns-then-i-least c t q-is =
    rw (sym c.field_at.ensures ∙ c.in-Some.is, lt-ltb c.in-Some.i t.q (omega arith), lt-leb c.args.least c.in-Some.i (omega arith))

pub returns : goal.returns
unfolding import_fault
returns c t q-is =
    rw (sym c.field_at.ensures ∙ c.in-Some.is, lt-ltb c.in-Some.i t.q (omega arith), le-leb c.args.least c.in-Some.i (omega arith))
