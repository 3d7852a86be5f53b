-- Every field of a table without fault holds its number.
use Rattle.std.specs.Prelude.{Bool, true, false, cond, ◌≡◌, ℕ, zero, suc, ◌<◌, ◌≤◌, ◌^◌, ltb, Ok}
use mathlib.Core.List.{List, [], ◌∷◌, map}
use native.Mathlib.Omega.{arith}
use borrow.Author.Tests.{ltb-true}
use Rattle.values.specs.declared.Number.{Number}
use Rattle.values.specs.Numbers.{in_range}
use Rattle.refusals.specs.declared.Refusal.{Refusal}
use Rattle.refusals.specs.Numbering.{unless}
use Rattle.bits.specs.Bits.{Part}
use Rattle.bits.specs.Holding.{Fitting}
use Rattle.table.specs.declared.Entry.{Entry}
use Rattle.table.specs.declared.Entry.TheVariants.{ImportedCondition, Defined, Pair, Not, Or, And, Implies, Less, Equal, ImportedEvent, Start, End, Both, Either, When, Constant, Variable, Sum, Difference, Clock, Value, Time, Update, Alarm, Property}
use Rattle.table.specs.declared.Table.{Table}
use Rattle.table.specs.Limits.{limits}
use Rattle.table.specs.Kinds.{Operand, entry, imported, variable, constant, kind_of, operands_of}
use Rattle.table.specs.Tables.{entry_at, is_event, initial_of}
use Rattle.table.specs.Faults.{operand_fault, operands_fault, number_fault}
use Rattle.script.specs.Operands.{width_of, field_of}
use Rattle.script.specs.Writer.{part, joined, header_parts, import_parts, number_parts, entry_parts, table_parts}
use Rattle.bits.specs.Packing.{fitting_append}
use Rattle.refusals.specs.Accepting.{unless_accepted, accepted_first, accepted_second}
use Rattle.roundtrip.specs.WrittenTwos.{unsigned_lt}
use Rattle.table.specs.Sound.{Within, Sound}

-- there are fewer kinds than 5 bits can say
pub kind_lt : (e : Entry) → kind_of e < 25
unfolding kind_of
kind_lt (ImportedCondition i) = omega arith
kind_lt (Defined a) = omega arith
kind_lt (Pair a b) = omega arith
kind_lt (Not a) = omega arith
kind_lt (Or a b) = omega arith
kind_lt (And a b) = omega arith
kind_lt (Implies a b) = omega arith
kind_lt (Less a b) = omega arith
kind_lt (Equal a b) = omega arith
kind_lt (ImportedEvent i) = omega arith
kind_lt (Start a) = omega arith
kind_lt (End a) = omega arith
kind_lt (Both a b) = omega arith
kind_lt (Either a b) = omega arith
kind_lt (When a b) = omega arith
kind_lt (Constant z) = omega arith
kind_lt (Variable x) = omega arith
kind_lt (Sum a b) = omega arith
kind_lt (Difference a b) = omega arith
kind_lt Clock = omega arith
kind_lt (Value i) = omega arith
kind_lt (Time a) = omega arith
kind_lt (Update a x b) = omega arith
kind_lt (Alarm a) = omega arith
kind_lt (Property a) = omega arith

-- lists of fields that fit, joined
pub fitting_joined : (n : ℕ) (f : ℕ → List Part) → ((i : ℕ) → i < n → Fitting (f i)) → Fitting (joined n f)
unfolding joined Fitting
fitting_joined zero f each = tt
fitting_joined (suc n) f each = fitting_append (joined n f) (f n) (fitting_joined n f (λ i h. each i (omega arith))) (each n (omega arith))

-- the field of an operand
abbrev pub operand_part : Operand → Part
operand_part o = part (width_of o) (field_of o)

module _ (t : Table) (within : Within t) where
  -- an operand without fault
  operand_fits : (k : ℕ) → k ≤ limits.entries → (o : Operand) → operand_fault t k o ≡ Ok tt → (width_of o ≤ 48) × (field_of o < 2 ^ width_of o)
  unfolding operand_fault
  operand_fits k h (entry s a) good =
      let early = unless_accepted (ltb a k) Refusal.Operand (accepted_first (unless (ltb a k) Refusal.Operand) _ good) in
      (omega arith, omega (arith, ltb-true a k early))
  operand_fits k h (imported s i) good =
      let there = unless_accepted (ltb i t.q) Refusal.Operand (accepted_first (unless (ltb i t.q) Refusal.Operand) _ good) in
      (omega arith, omega (arith, ltb-true i t.q there))
  operand_fits k h (variable x) good = (omega arith, omega (arith, ltb-true x t.v (unless_accepted (ltb x t.v) Refusal.Operand good)))
  operand_fits k h (constant z) good = (omega arith, unsigned_lt z (unless_accepted (in_range z) Refusal.Range good))

  operands_fit : (k : ℕ) → k ≤ limits.entries → (os : List Operand) → operands_fault t k os ≡ Ok tt → Fitting (map operand_part os)
  unfolding operands_fault Fitting
  operands_fit k h [] good = tt
  operands_fit k h (o ∷ os) good =
      let this = operand_fits k h o (accepted_first (operand_fault t k o) (operands_fault t k os) good) in
      (this.0, (this.1, operands_fit k h os (accepted_second (operand_fault t k o) (operands_fault t k os) good)))

  -- an entry without fault
  entry_fits : (k : ℕ) → k ≤ limits.entries → (e : Entry) → operands_fault t k (operands_of e) ≡ Ok tt → Fitting (entry_parts e)
  unfolding Fitting entry_parts
  entry_fits k h e good = (omega arith, (omega (arith, kind_lt e), operands_fit k h (operands_of e) good))

  -- the counts
  header_fits : Fitting (header_parts t)
  unfolding Fitting header_parts
  header_fits =
      (omega arith, (omega arith, (omega arith, (omega arith, (omega arith, (omega arith, (omega arith, (omega arith, (omega arith, (omega arith, tt))))))))))

-- an import is one bit
import_fits : (t : Table) (i : ℕ) → Fitting (import_parts t i)
unfolding Fitting import_parts
import_fits t i = (omega arith, (bit (is_event t i), tt))
  where
    bit : (b : Bool) → cond b 1 0 < 2 ^ 1
    bit true = omega arith
    bit false = omega arith

-- a variable's start
number_fits : (y : Number) → number_fault y ≡ Ok tt → Fitting (number_parts y)
unfolding Fitting number_fault
number_fits Number.Undefined good = (omega arith, (omega arith, (omega arith, (omega arith, tt))))
number_fits (Number.Whole z) good = (omega arith, (omega arith, (omega arith, (unsigned_lt z (unless_accepted (in_range z) Refusal.Range good), tt))))

-- "Fields are packed": every field of the table holds its number
pub table_fits : (t : Table) → Sound t → Fitting (table_parts t)
unfolding table_parts
table_fits t sound =
    fitting_append (header_parts t) _ (header_fits t sound.within)
    (fitting_append (joined t.q (import_parts t)) _ (fitting_joined t.q (import_parts t) (λ i h. import_fits t i))
    (fitting_append (joined t.v (λ x. number_parts (initial_of t x))) _
    (fitting_joined t.v (λ x. number_parts (initial_of t x)) (λ x h. number_fits (initial_of t x) (sound.numbers x h)))
    (fitting_joined t.n (λ k. entry_parts (entry_at t k))
    (λ k h. entry_fits t sound.within k (omega (arith, sound.within.entries)) (entry_at t k) (sound.operands k h)))))
