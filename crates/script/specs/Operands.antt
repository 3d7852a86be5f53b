-- Operands as fields: how wide each is, and which number stands for it.
use Rattle.std.specs.Prelude.{ℕ}
use Rattle.bits.specs.Twos.{signed, unsigned}
use Rattle.table.specs.Limits.{limits}
use Rattle.table.specs.Kinds.{Operand, entry, imported, variable, constant}

-- "An entry number takes 7 bits, an import 6, a variable 5, a constant 48 (two's complement)."
abbrev pub width_of : Operand → ℕ
width_of (entry s a) = limits.entry_bits
width_of (imported s i) = 6
width_of (variable x) = 5
width_of (constant z) = 48

-- the number in an operand's field
abbrev pub field_of : Operand → ℕ
field_of (entry s a) = a
field_of (imported s i) = i
field_of (variable x) = x
field_of (constant z) = unsigned z

-- a constant from its field
abbrev pub constant_field : ℕ → Operand
constant_field v = constant (signed v)
