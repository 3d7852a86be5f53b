-- `writer::packing::put_operand` meets its contract: an operand of no width has no field, any other has one.
use mathlib.Core.Path.{sym, ◌∙◌}
use native.Mathlib.Omega.{arith}
use Rattle.writer.specs.Parts.{operand_none}
use Rattle.writer.specs.Puts.{puts_none, field_ends}
use Rattle.writer.specs.Widths.{operand_wide}
use Rattle.writer.proofs.packing.put_operand.Goals as goal

pub returns-then-w-eq0-clause-put : goal.returns-then-w-eq0-clause-put
returns-then-w-eq0-clause-put c = rw (operand_none c.args.o (sym c.width-w.ensures ∙ c.if-w-eq0.true)) puts_none

pub returns-clause-near : goal.returns-clause-near
returns-clause-near c = omega (arith, c.width-w.ensures, operand_wide c.args.o, field_ends c.put_field.ensures)
