-- Laws of entries taken apart: the operands are the table's, the sort goes with the kind, and a made entry is the one that was taken apart.
use Rattle.std.specs.Prelude.{◌++◌, ◌≡◌, refl, ℕ, ◌≤◌, ◌<◌, ℤ}
use Rattle.std.proofs.Common.{mod-eq_of_lt, lit<}
use Rattle.std.proofs.Math.ListN.{get_or-eq_default}
use Rattle.table.specs.declared.Entry.{Entry}
use Rattle.table.specs.declared.Entry.TheVariants.{ImportedCondition, Defined, Pair, Not, Or, And, Implies, Less, Equal, ImportedEvent, Start, End, Both, Either, When, Constant, Variable, Sum, Difference, Clock, Value, Time, Update, Alarm, Property}
use Rattle.table.specs.Kinds.{kind_of, operands_of, sort_of, sort_number}
use Rattle.table.specs.declared.Sort.{Sort}
use Rattle.kinds.specs.declared.Operand.{Operand}
use Rattle.kinds.specs.Apart.{apart_of, named_by, number_of, constant_of, holding, every_kind, made_of, sort_of_kind}

-- an entry made again from its kind and the numbers of its operands
abbrev pub made_again : Entry → Entry
made_again e =
    made_of (apart_of e).kind (number_of (apart_of e).first) (number_of (apart_of e).second) (number_of (apart_of e).third) (constant_of (apart_of e).first)

-- what is said of each kind below
each_kind : (e : Entry) →
    (named_by (apart_of e).first ++ (named_by (apart_of e).second ++ named_by (apart_of e).third) ≡ operands_of e)
    × (sort_of_kind (kind_of e) ≡ sort_number (sort_of e)) × (kind_of e < 25) × (made_again e ≡ e)
unfolding apart_of kind_of operands_of sort_of made_of
each_kind (ImportedCondition i) = (refl, refl, lit< tt, refl)
each_kind (Defined a) = (refl, refl, lit< tt, refl)
each_kind (Pair a b) = (refl, refl, lit< tt, refl)
each_kind (Not a) = (refl, refl, lit< tt, refl)
each_kind (Or a b) = (refl, refl, lit< tt, refl)
each_kind (And a b) = (refl, refl, lit< tt, refl)
each_kind (Implies a b) = (refl, refl, lit< tt, refl)
each_kind (Less a b) = (refl, refl, lit< tt, refl)
each_kind (Equal a b) = (refl, refl, lit< tt, refl)
each_kind (ImportedEvent i) = (refl, refl, lit< tt, refl)
each_kind (Start a) = (refl, refl, lit< tt, refl)
each_kind (End a) = (refl, refl, lit< tt, refl)
each_kind (Both a b) = (refl, refl, lit< tt, refl)
each_kind (Either a b) = (refl, refl, lit< tt, refl)
each_kind (When a b) = (refl, refl, lit< tt, refl)
each_kind (Constant z) = (refl, refl, lit< tt, refl)
each_kind (Variable x) = (refl, refl, lit< tt, refl)
each_kind (Sum a b) = (refl, refl, lit< tt, refl)
each_kind (Difference a b) = (refl, refl, lit< tt, refl)
each_kind Clock = (refl, refl, lit< tt, refl)
each_kind (Value i) = (refl, refl, lit< tt, refl)
each_kind (Time a) = (refl, refl, lit< tt, refl)
each_kind (Update a x b) = (refl, refl, lit< tt, refl)
each_kind (Alarm a) = (refl, refl, lit< tt, refl)
each_kind (Property a) = (refl, refl, lit< tt, refl)

-- the three operands, nothing left out, are those of the table of kinds
pub operands_apart : (e : Entry) → named_by (apart_of e).first ++ (named_by (apart_of e).second ++ named_by (apart_of e).third) ≡ operands_of e
operands_apart e = (each_kind e).0

-- the sort of an entry goes with its kind
pub sort_of_kind_lem : (e : Entry) → sort_of_kind (kind_of e) ≡ sort_number (sort_of e)
sort_of_kind_lem e = (each_kind e).1

-- there are 25 kinds
pub kind_lt : (e : Entry) → kind_of e < 25
kind_lt e = (each_kind e).2

-- from 25 on there is no kind
pub past_kinds : (kind a b c : ℕ) (z : ℤ) → 25 ≤ kind → made_of kind a b c z ≡ Clock
unfolding made_of
past_kinds kind a b c z past = get_or-eq_default (every_kind a b c z) Clock past

-- an entry that is taken apart and made again is the same
pub made_apart : (e : Entry) → made_again e ≡ e
made_apart e = (each_kind e).3

-- a number of 16 bits is held as it is
pub holding_small : (s : Sort) (a v : ℕ) → v < 65536 → (holding (Operand.Entry s a) v ≡ Operand.Entry s v)
    × (holding (Operand.Imported s a) v ≡ Operand.Imported s v) × (holding (Operand.Variable a) v ≡ Operand.Variable v)
holding_small s a v small = (rw (mod-eq_of_lt small), rw (mod-eq_of_lt small), rw (mod-eq_of_lt small))
