-- `writer::packing::put_number` meets its contract: two fields in either case.
use mathlib.Core.Path.{ap, ◌∙◌}
use native.Mathlib.Omega.{arith}
use borrow.Author.Rules.{rules}
use mir.Syntax.{w64}
use mir.ValLaws.{to_z-of_z}
use Rattle.bits.specs.Twos.{unsigned}
use Rattle.writer.specs.Puts.{puts_next, field_ends}
use Rattle.writer.proofs.packing.put_number.Goals as goal

pub put_field-requires : goal.put_field-requires
put_field-requires c = omega (arith, field_ends c.put_field-next.ensures)

pub put_field-requires-in-Whole : goal.put_field-requires-in-Whole
put_field-requires-in-Whole c = omega (arith, field_ends c.put_field-next-in-Whole.ensures)

pub returns-in-Undefined : goal.returns-in-Undefined
returns-in-Undefined c = rw c.in-Undefined.is (search puts_next)

pub returns-in-Whole : goal.returns-in-Whole
returns-in-Whole c =
    let whole = to_z-of_z w64 c.in-Whole.z (search rules) in
    let number = c.unsigned.ensures ∙ ap unsigned whole in
    rw (c.in-Whole.is, ← number) (puts_next c.put_field-next-in-Whole.ensures c.put_field-in-Whole.ensures)
