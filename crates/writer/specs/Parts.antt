-- The fields of a table, as they are put one after another.
use Rattle.std.specs.Prelude.{List, [], ◌∷◌, ◌++◌, map, ◌≡◌, refl, ℕ, ◌+◌}
use Rattle.std.proofs.lemmas.List.{map-append}
use Rattle.std.proofs.Common.{sym, ◌∙◌, ap, add-one, arith}
use Rattle.bits.specs.Bits.{Part}
use Rattle.table.specs.declared.Entry.{Entry}
use Rattle.table.specs.declared.Table.{Table}
use Rattle.table.specs.Kinds.{kind_of}
use Rattle.table.specs.Kinds as kinds
use Rattle.table.specs.Tables.{initial_of, entry_at}
use Rattle.script.specs.Operands.{width_of, field_of}
use Rattle.script.specs.Writer.{part, joined, import_parts, number_parts, entry_parts}
use Rattle.kinds.specs.declared.Operand.{Operand}
use Rattle.kinds.specs.declared.Apart.{Apart}
use Rattle.kinds.specs.Apart.{apart_of, named_by, wide_of, number_of}
use Rattle.kinds.specs.Laws.{operands_apart}

-- the field of an operand of the table of kinds
abbrev pub operand_part : kinds.Operand → Part
operand_part o = part (width_of o) (field_of o)

-- an operand's field, or none
abbrev pub operand_parts : Operand → List Part
operand_parts o = map operand_part (named_by o)

-- every import's bit
abbrev pub imports_parts : Table → ℕ → List Part
imports_parts t q = joined q (import_parts t)

-- every variable's bit and number
abbrev pub variables_parts : Table → ℕ → List Part
variables_parts t v = joined v (λ x. number_parts (initial_of t x))

-- every entry's kind and operands
abbrev pub entries_parts : Table → ℕ → List Part
entries_parts t n = joined n (λ k. entry_parts (entry_at t k))

-- one list more
pub joined_more : (i : ℕ) (f : ℕ → List Part) → joined (i + 1) f ≡ joined i f ++ f i
unfolding joined
joined_more i f = rw (add-one i) refl

-- an operand of no width is nothing, and has no field
pub operand_none : (o : Operand) → wide_of o ≡ 0 → operand_parts o ≡ []
operand_none Operand.Nothing e = refl
operand_none (Operand.Entry s a) e = absurd (omega arith)
operand_none (Operand.Imported s i) e = absurd (omega arith)
operand_none (Operand.Variable x) e = absurd (omega arith)
operand_none (Operand.Constant z) e = absurd (omega arith)

-- any other has one
pub operand_some : (o : Operand) → (wide_of o ≡ 0 → ⊥) → operand_parts o ≡ part (wide_of o) (number_of o) ∷ []
operand_some Operand.Nothing some = absurd (some refl)
operand_some (Operand.Entry s a) some = refl
operand_some (Operand.Imported s i) some = refl
operand_some (Operand.Variable x) some = refl
operand_some (Operand.Constant z) some = refl

-- the fields of an entry that was taken apart: its kind, then its three operands
abbrev pub apart_parts : Apart → List Part
apart_parts a = part 5 a.kind ∷ (operand_parts a.first ++ (operand_parts a.second ++ operand_parts a.third))

-- they are the entry's
pub entry_parts_lem : (e : Entry) → entry_parts e ≡ apart_parts (apart_of e)
unfolding entry_parts apart_of
entry_parts_lem e =
    ap (λ (l : List Part). part 5 (kind_of e) ∷ l)
    (ap (map operand_part) (sym (operands_apart e)) ∙ rw (map-append operand_part, map-append operand_part) refl)
