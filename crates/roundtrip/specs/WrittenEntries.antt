-- An entry that was written is read again: the twenty-five kinds.
use Rattle.std.specs.Prelude.{true, List, [], ◌∷◌, ◌≡◌, ℕ, ◌+◌, ltb, ℤ, get_or, Ok}
use Rattle.std.proofs.Math.Path.{refl, ap}
use Rattle.std.proofs.Common.{◌∙◌, arith}
use Rattle.values.specs.Numbers.{in_range}
use Rattle.refusals.specs.declared.Refusal.{Refusal}
use Rattle.refusals.specs.Numbering.{unless, and_then}
use Rattle.bits.specs.Twos.{signed, unsigned}
use Rattle.bits.specs.Holding.{width_of_all, Holds}
use Rattle.bits.specs.Reading.{got}
use Rattle.table.specs.declared.Entry.{Entry}
use Rattle.table.specs.declared.Entry.TheVariants.{ImportedCondition, Defined, Pair, Not, Or, And, Implies, Less, Equal, ImportedEvent, Start, End, Both, Either, When, Constant, Variable, Sum, Difference, Clock, Value, Time, Update, Alarm, Property}
use Rattle.table.specs.declared.Table.{Table}
use Rattle.table.specs.Kinds.{Operand, C, E, N, condition_import, event_import, variable, constant, kind_of, operands_of}
use Rattle.table.specs.Faults.{operand_fault, operands_fault}
use Rattle.script.specs.Operands.{width_of, constant_field}
use Rattle.script.specs.Reader.{operand, bare, one, two, three, kinds, entry}
use Rattle.script.specs.Writer.{part, entry_parts}
use Rattle.refusals.specs.Accepting.{unless_accepted, accepted_first, accepted_second}
use Rattle.roundtrip.specs.WrittenTwos.{signed_unsigned}

module _ (t : Table) (k : ℕ) (s : List ℕ) (at : ℕ) where
  -- no operand
  no_row : (kind : ℕ) (e : Entry) → ltb kind 25 ≡ true → get_or (kinds t k) kind (bare Clock) ≡ bare e
      → Holds s at (part 5 kind ∷ []) → entry t k s at ≡ got e (at + width_of_all (part 5 kind ∷ []))
  unfolding Holds width_of_all entry
  no_row kind e known is held = rw (held.0, known, is)

  -- one operand
  one_row : (kind : ℕ) (o : ℕ → Operand) (make : ℕ → Entry) (a : ℕ) → ltb kind 25 ≡ true → get_or (kinds t k) kind (bare Clock) ≡ one t k o make
      → Holds s at (part 5 kind ∷ part (width_of (o 0)) a ∷ []) → and_then (operand_fault t k (o a)) (Ok tt) ≡ Ok tt
      → entry t k s at ≡ got (make a) (at + width_of_all (part 5 kind ∷ part (width_of (o 0)) a ∷ []))
  unfolding Holds width_of_all entry operand
  one_row kind o make a known is held good =
      rw (held.0, known, is, held.1.0, accepted_first (operand_fault t k (o a)) (Ok tt) good) (ap (got (make a)) (omega arith))

  -- two
  two_row : (kind : ℕ) (o p : ℕ → Operand) (make : ℕ → ℕ → Entry) (a b : ℕ) → ltb kind 25 ≡ true
      → get_or (kinds t k) kind (bare Clock) ≡ two t k o p make → Holds s at (part 5 kind ∷ part (width_of (o 0)) a ∷ part (width_of (p 0)) b ∷ [])
      → and_then (operand_fault t k (o a)) (and_then (operand_fault t k (p b)) (Ok tt)) ≡ Ok tt
      → entry t k s at ≡ got (make a b) (at + width_of_all (part 5 kind ∷ part (width_of (o 0)) a ∷ part (width_of (p 0)) b ∷ []))
  unfolding Holds width_of_all entry operand
  two_row kind o p make a b known is held good =
      let first = accepted_first (operand_fault t k (o a)) (and_then (operand_fault t k (p b)) (Ok tt)) good in
      let rest = accepted_second (operand_fault t k (o a)) (and_then (operand_fault t k (p b)) (Ok tt)) good in
      rw (held.0, known, is, held.1.0, first, held.1.1.0, accepted_first (operand_fault t k (p b)) (Ok tt) rest)
      (ap (got (make a b)) (omega arith))

  -- three
  three_row : (kind : ℕ) (o p r : ℕ → Operand) (make : ℕ → ℕ → ℕ → Entry) (a b c : ℕ) → ltb kind 25 ≡ true
      → get_or (kinds t k) kind (bare Clock) ≡ three t k o p r make
      → Holds s at (part 5 kind ∷ part (width_of (o 0)) a ∷ part (width_of (p 0)) b ∷ part (width_of (r 0)) c ∷ [])
      → and_then (operand_fault t k (o a)) (and_then (operand_fault t k (p b)) (and_then (operand_fault t k (r c)) (Ok tt))) ≡ Ok tt
      → entry t k s at
      ≡ got (make a b c) (at + width_of_all (part 5 kind ∷ part (width_of (o 0)) a ∷ part (width_of (p 0)) b ∷ part (width_of (r 0)) c ∷ []))
  unfolding Holds width_of_all entry operand
  three_row kind o p r make a b c known is held good =
      let last = and_then (operand_fault t k (r c)) (Ok tt) in
      let first = accepted_first (operand_fault t k (o a)) (and_then (operand_fault t k (p b)) last) good in
      let rest = accepted_second (operand_fault t k (o a)) (and_then (operand_fault t k (p b)) last) good in
      let second = accepted_first (operand_fault t k (p b)) last rest in
      let third = accepted_first (operand_fault t k (r c)) (Ok tt) (accepted_second (operand_fault t k (p b)) last rest) in
      rw (held.0, known, is, held.1.0, first, held.1.1.0, second, held.1.1.1.0, third) (ap (got (make a b c)) (omega arith))

  -- a constant: 48 bits for a number in range
  constant_row : (z : ℤ) → Holds s at (part 5 15 ∷ part 48 (unsigned z) ∷ [])
      → and_then (operand_fault t k (constant z)) (Ok tt) ≡ Ok tt
      → entry t k s at ≡ got (Constant z) (at + width_of_all (part 5 15 ∷ part 48 (unsigned z) ∷ []))
  unfolding operand_fault kinds
  constant_row z held good =
      let again = signed_unsigned z (unless_accepted (in_range z) Refusal.Range (accepted_first (unless (in_range z) Refusal.Range) (Ok tt) good)) in
      one_row 15 constant_field (λ v. Constant (signed v)) (unsigned z) refl refl held (rw again good)
      ∙ ap (λ (y : ℤ). got (Constant y) (at + width_of_all (part 5 15 ∷ part 48 (unsigned z) ∷ []))) again

  -- "An entry is one of twenty-five kinds, each with its own operands": a written one is read again
  pub entry_held : (e : Entry) → Holds s at (entry_parts e) → operands_fault t k (operands_of e) ≡ Ok tt
      → entry t k s at ≡ got e (at + width_of_all (entry_parts e))
  unfolding entry_parts kind_of operands_of operands_fault kinds
  entry_held (ImportedCondition i) held good = one_row 0 condition_import ImportedCondition i refl refl held good
  entry_held (Defined a) held good = one_row 1 C Defined a refl refl held good
  entry_held (Pair a b) held good = two_row 2 E E Pair a b refl refl held good
  entry_held (Not a) held good = one_row 3 C Not a refl refl held good
  entry_held (Or a b) held good = two_row 4 C C Or a b refl refl held good
  entry_held (And a b) held good = two_row 5 C C And a b refl refl held good
  entry_held (Implies a b) held good = two_row 6 C C Implies a b refl refl held good
  entry_held (Less a b) held good = two_row 7 N N Less a b refl refl held good
  entry_held (Equal a b) held good = two_row 8 N N Equal a b refl refl held good
  entry_held (ImportedEvent i) held good = one_row 9 event_import ImportedEvent i refl refl held good
  entry_held (Start a) held good = one_row 10 C Start a refl refl held good
  entry_held (End a) held good = one_row 11 C End a refl refl held good
  entry_held (Both a b) held good = two_row 12 E E Both a b refl refl held good
  entry_held (Either a b) held good = two_row 13 E E Either a b refl refl held good
  entry_held (When a b) held good = two_row 14 E C When a b refl refl held good
  entry_held (Constant z) held good = constant_row z held good
  entry_held (Variable x) held good = one_row 16 variable Variable x refl refl held good
  entry_held (Sum a b) held good = two_row 17 N N Sum a b refl refl held good
  entry_held (Difference a b) held good = two_row 18 N N Difference a b refl refl held good
  entry_held Clock held good = no_row 19 Clock refl refl held
  entry_held (Value i) held good = one_row 20 event_import Value i refl refl held good
  entry_held (Time a) held good = one_row 21 E Time a refl refl held good
  entry_held (Update a x b) held good = three_row 22 E variable N Update a x b refl refl held good
  entry_held (Alarm a) held good = one_row 23 E Alarm a refl refl held good
  entry_held (Property a) held good = one_row 24 C Property a refl refl held good
