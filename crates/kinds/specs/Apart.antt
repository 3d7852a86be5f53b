-- An entry as a kind and up to three operands, and back.
use Rattle.std.specs.Prelude.{cond, List, [], ◌∷◌, ℕ, ◌%◌, ltb, ℤ, pos, get_or, drop}
use Rattle.bits.specs.Twos.{signed}
use Rattle.table.specs.declared.Sort.{Sort}
use Rattle.table.specs.declared.Entry.{Entry}
use Rattle.table.specs.Kinds.{entry, imported, variable, constant, kind_of, operands_of}
use Rattle.table.specs.Kinds as kinds
use Rattle.script.specs.Operands.{width_of, field_of}
use Rattle.kinds.specs.declared.Operand.{Operand}
use Rattle.kinds.specs.declared.Apart.{Apart}

-- a kind with one operand
abbrev pub one_operand : ℕ → Operand → Apart
one_operand kind o = record { kind = kind; first = o; second = Operand.Nothing; third = Operand.Nothing }

-- a kind with no operand
abbrev pub no_operand : ℕ → Apart
no_operand kind = one_operand kind Operand.Nothing

-- a kind with two entries for operands
abbrev pub two_entries : ℕ → Sort → ℕ → Sort → ℕ → Apart
two_entries kind s a t b = record { kind = kind; first = Operand.Entry s a; second = Operand.Entry t b; third = Operand.Nothing }

-- "22 update E, variable, N"
abbrev pub an_update : ℕ → ℕ → ℕ → Apart
an_update a x b = record { kind = 22; first = Operand.Entry Sort.Event a; second = Operand.Variable x; third = Operand.Entry Sort.Number b }

-- the first of some operands, or nothing
abbrev pub first_of : List kinds.Operand → Operand
first_of [] = Operand.Nothing
first_of (entry s a ∷ rest) = Operand.Entry s a
first_of (imported s i ∷ rest) = Operand.Imported s i
first_of (variable x ∷ rest) = Operand.Variable x
first_of (constant z ∷ rest) = Operand.Constant z

-- an entry's kind and its operands, in the table's order
unfoldable pub apart_of : Entry → Apart
apart_of e =
    record {
      kind = kind_of e;
      first = first_of (operands_of e);
      second = first_of (drop 1 (operands_of e));
      third = first_of (drop 2 (operands_of e));
    }

-- the operand as the table of kinds has it; nothing is none
abbrev pub named_by : Operand → List kinds.Operand
named_by Operand.Nothing = []
named_by (Operand.Entry s a) = entry s a ∷ []
named_by (Operand.Imported s i) = imported s i ∷ []
named_by (Operand.Variable x) = variable x ∷ []
named_by (Operand.Constant z) = constant z ∷ []

-- how many bits an operand takes; nothing takes none
abbrev pub wide_of : Operand → ℕ
wide_of Operand.Nothing = 0
wide_of (Operand.Entry s a) = width_of (entry s a)
wide_of (Operand.Imported s i) = width_of (imported s i)
wide_of (Operand.Variable x) = width_of (variable x)
wide_of (Operand.Constant z) = width_of (constant z)

-- the number in an operand's field
abbrev pub number_of : Operand → ℕ
number_of Operand.Nothing = 0
number_of (Operand.Entry s a) = field_of (entry s a)
number_of (Operand.Imported s i) = field_of (imported s i)
number_of (Operand.Variable x) = field_of (variable x)
number_of (Operand.Constant z) = field_of (constant z)

-- the number that an operand is; 0 where it names something
abbrev pub constant_of : Operand → ℤ
constant_of Operand.Nothing = pos 0
constant_of (Operand.Entry s a) = pos 0
constant_of (Operand.Imported s i) = pos 0
constant_of (Operand.Variable x) = pos 0
constant_of (Operand.Constant z) = z

-- the operand of the same place, with the number that its field holds; entries, imports and variables keep 16 bits of it
abbrev pub holding : Operand → ℕ → Operand
holding Operand.Nothing v = Operand.Nothing
holding (Operand.Entry s a) v = Operand.Entry s (v % 65536)
holding (Operand.Imported s i) v = Operand.Imported s (v % 65536)
holding (Operand.Variable x) v = Operand.Variable (v % 65536)
holding (Operand.Constant z) v = Operand.Constant (signed v)

-- an entry of each kind, in order, from the numbers of its operands
abbrev pub every_kind : ℕ → ℕ → ℕ → ℤ → List Entry
every_kind a b c z =
    Entry.ImportedCondition a
    ∷ Entry.Defined a
    ∷ Entry.Pair a b
    ∷ Entry.Not a
    ∷ Entry.Or a b
    ∷ Entry.And a b
    ∷ Entry.Implies a b
    ∷ Entry.Less a b
    ∷ Entry.Equal a b
    ∷ Entry.ImportedEvent a
    ∷ Entry.Start a
    ∷ Entry.End a
    ∷ Entry.Both a b
    ∷ Entry.Either a b
    ∷ Entry.When a b
    ∷ Entry.Constant z
    ∷ Entry.Variable a
    ∷ Entry.Sum a b
    ∷ Entry.Difference a b
    ∷ Entry.Clock
    ∷ Entry.Value a
    ∷ Entry.Time a
    ∷ Entry.Update a b c
    ∷ Entry.Alarm a
    ∷ Entry.Property a
    ∷ []

-- the entry of a kind, 0 to 24, from the numbers of its operands; from 25 on there is none, and the clock stands in
unfoldable pub made_of : ℕ → ℕ → ℕ → ℕ → ℤ → Entry
made_of kind a b c z = get_or (every_kind a b c z) kind Entry.Clock

-- the sort of a kind, as a number: conditions come first, then events, then numbers
abbrev pub sort_of_kind : ℕ → ℕ
sort_of_kind kind = cond (ltb kind 9) 1 (cond (ltb kind 15) 2 (cond (ltb kind 22) 3 0))
