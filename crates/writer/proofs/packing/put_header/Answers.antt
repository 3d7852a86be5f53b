-- `writer::packing::put_header` meets its contract: five fields, one after another.
use native.Mathlib.Omega.{arith}
use Rattle.script.specs.Writer.{header_parts}
use Rattle.writer.specs.Puts.{puts_next, field_ends}
use Rattle.writer.proofs.packing.put_header.Goals as goal

pub put_field-at-requires-2 : goal.put_field-at-requires-2
put_field-at-requires-2 c = omega (arith, field_ends c.put_field-at.ensures)

pub put_field-at-requires-3 : goal.put_field-at-requires-3
put_field-at-requires-3 c =
    let one = field_ends c.put_field-at.ensures in
    let two = field_ends c.put_field-at-2.ensures in
    omega arith

pub put_field-at-requires-4 : goal.put_field-at-requires-4
put_field-at-requires-4 c =
    let one = field_ends c.put_field-at.ensures in
    let two = field_ends c.put_field-at-2.ensures in
    let three = field_ends c.put_field-at-3.ensures in
    omega arith

pub put_field-requires : goal.put_field-requires
put_field-requires c =
    let one = field_ends c.put_field-at.ensures in
    let two = field_ends c.put_field-at-2.ensures in
    let three = field_ends c.put_field-at-3.ensures in
    let four = field_ends c.put_field-at-4.ensures in
    omega arith

pub returns : goal.returns
unfolding header_parts
returns c =
    let one = c.put_field-at.ensures in
    let two = c.put_field-at-2.ensures in
    let three = c.put_field-at-3.ensures in
    let four = c.put_field-at-4.ensures in
    let five = c.put_field.ensures in
    puts_next one (puts_next two (puts_next three (puts_next four five)))
