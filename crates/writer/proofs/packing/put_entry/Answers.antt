-- `writer::packing::put_entry` meets its contract: the kind, then the operands that the entry has when it is taken apart.
use native.Mathlib.Omega.{arith}
use Rattle.writer.specs.Parts.{entry_parts_lem}
use Rattle.writer.specs.Puts.{puts_next, puts_more, field_ends}
use Rattle.writer.proofs.packing.put_entry.Goals as goal

pub put_operand-two-requires : goal.put_operand-two-requires
put_operand-two-requires c = omega (arith, field_ends c.put_field-one.ensures)

pub put_operand-three-requires : goal.put_operand-three-requires
put_operand-three-requires c = omega (arith, field_ends c.put_field-one.ensures)

pub put_operand-requires : goal.put_operand-requires
put_operand-requires c = omega (arith, field_ends c.put_field-one.ensures)

pub returns : goal.returns
returns c =
    rw (entry_parts_lem c.args.e, ← c.apart_of-apart.ensures) (search (puts_next, puts_more))
