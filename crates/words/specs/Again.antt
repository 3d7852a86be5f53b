-- What is made a word and read back is the same.
use Rattle.std.specs.Prelude.{Bool, true, false, cond, List, [], ◌∷◌, ◌≡◌, refl, ℕ, suc, ◌+◌, ◌-◌, ◌*◌, ◌/◌, ◌%◌, ◌^◌, ◌<◌, eqb, ℤ, pos, negsuc, Ok}
use Rattle.std.proofs.Common.{ap, ◌∙◌, arith, eq-eqb, lt-ltb, le-ltb, ltb-true, eqb-true}
use Rattle.replies.specs.Plain.{never}
use Rattle.values.specs.declared.Truth.{Truth}
use Rattle.values.specs.declared.Number.{Number}
use Rattle.values.specs.Numbers.{in_range, fits_n, eq_z}
use Rattle.refusals.specs.declared.Refusal.{Refusal}
use Rattle.refusals.specs.Numbering.{unless}
use Rattle.refusals.specs.Accepting.{unless_accepted, accepted_first}
use Rattle.table.specs.declared.Entry.{Entry}
use Rattle.table.specs.declared.Entry.TheVariants.{ImportedCondition, Defined, Pair, Not, Or, And, Implies, Less, Equal, ImportedEvent, Start, End, Both, Either, When, Constant, Variable, Sum, Difference, Clock, Value, Time, Update, Alarm, Property}
use Rattle.table.specs.declared.Table.{Table}
use Rattle.table.specs.Kinds.{Operand, entry, imported, variable, constant, kind_of, operands_of}
use Rattle.table.specs.Tables.{zero_constant}
use Rattle.table.specs.Faults.{operand_fault, operands_fault}
use Rattle.meaning.specs.declared.Places.{Places}
use Rattle.meaning.specs.Places.{places_of}
use Rattle.meaning.specs.Inside.{Inside}
use Rattle.kinds.specs.Apart.{first_of, apart_of, constant_of, made_of}
use Rattle.words.specs.Words.{zero_word, shifted, number_word, truth_word, event_word, place_word, entry_word}
use Rattle.words.specs.Fields.{place_fields}
use Rattle.words.specs.Unpacking.{whole_of_word, number_of_word, truth_of_word, constant_of_word, of_import, first_of_word, second_of_word, entry_of_word}

-- a number in range has its word from 2^48 up to 2^49
pub shifted_high : (z : ℤ) → in_range z ≡ true → shifted z / 2 ^ 48 ≡ 1
shifted_high (pos n) fits = let low = ltb-true n (2 ^ 47) fits in omega arith
shifted_high (negsuc n) fits = let low = ltb-true n (2 ^ 47) fits in omega arith

-- and is as far from 0 as its word is from the word of 0
pub shifted_again : (z : ℤ) → in_range z ≡ true → whole_of_word (shifted z) ≡ z
shifted_again (pos n) fits =
    ap (λ (b : Bool). cond b (negsuc (zero_word - suc (zero_word + n))) (pos (zero_word + n - zero_word))) (le-ltb (zero_word + n) zero_word (omega arith))
    ∙ ap pos (omega arith)
shifted_again (negsuc n) fits =
    let low = ltb-true n (2 ^ 47) fits in
    ap (λ (b : Bool). cond b (negsuc (zero_word - suc (zero_word - suc n))) (pos (zero_word - suc n - zero_word))) (lt-ltb (zero_word - suc n) zero_word (omega arith))
    ∙ ap negsuc (omega arith)

-- a number in range comes back from its word
pub number_again : (x : Number) → fits_n x ≡ true → number_of_word (number_word x) ≡ x
number_again Number.Undefined fits = refl
number_again (Number.Whole z) fits = rw (fits, eq-eqb (shifted z / 2 ^ 48) 1 (shifted_high z fits)) (ap Number.Whole (shifted_again z fits))

-- a truth comes back from its word
pub truth_again : (c : Truth) → truth_of_word (truth_word c) ≡ c
truth_again Truth.Undefined = refl
truth_again Truth.False = refl
truth_again Truth.True = refl

-- the sort of an import comes back from its word
pub event_again : (b : Bool) → eqb (event_word b) 1 ≡ b
event_again true = refl
event_again false = refl

-- an entry that looks inside the slots is made of its kind and of where it looks
pub placed : (kind : ℕ) (p : Places) → Inside p → kind < 32 → (let w = kind + 32 * place_word p in
    entry_of_word w
    ≡ made_of kind (cond (of_import kind) p.imported (cond (eqb kind 16) p.variable p.first)) (cond (eqb kind 22) p.variable p.second)
    p.second (constant_of_word (w / 32)))
unfolding entry_of_word first_of_word second_of_word
placed kind p inside few =
    let w = kind + 32 * place_word p in
    let is : w % 32 ≡ kind = omega arith in
    let fields = place_fields kind p inside few in
    rw (is, fields.first, fields.second, fields.variable, fields.imported) refl

-- a constant in range comes back
constant_back : (z : ℤ) → in_range z ≡ true → entry_of_word (entry_word (Constant z)) ≡ Constant z
unfolding entry_of_word entry_word kind_of operands_of apart_of made_of
constant_back z fits =
    let kind : (15 + 32 * shifted z) % 32 ≡ 15 = omega arith in
    let number : (15 + 32 * shifted z) / 32 ≡ shifted z = omega arith in
    rw (fits, kind, number, eq-eqb (shifted z / 2 ^ 48) 1 (shifted_high z fits)) (ap Constant (shifted_again z fits))

-- no number but 0 is the same as 0, and that is in range
zero_fits : (z : ℤ) → eq_z z (pos 0) ≡ true → in_range z ≡ true
zero_fits (pos n) same = lt-ltb n (2 ^ 47) (omega (arith, eqb-true n 0 same))
zero_fits (negsuc n) same = never same

-- the constant 0 comes back, and so does any other entry that looks inside the slots and whose constant is in range
pub entry_back : (e : Entry) → (zero_constant (operands_of e) ≡ false → Inside (places_of e) × (in_range (constant_of (apart_of e).first) ≡ true))
    → entry_of_word (entry_word e) ≡ e
unfolding entry_word kind_of operands_of places_of apart_of made_of
entry_back (ImportedCondition i) good = placed 0 _ (good refl).0 (omega arith)
entry_back (Defined a) good = placed 1 _ (good refl).0 (omega arith)
entry_back (Pair a b) good = placed 2 _ (good refl).0 (omega arith)
entry_back (Not a) good = placed 3 _ (good refl).0 (omega arith)
entry_back (Or a b) good = placed 4 _ (good refl).0 (omega arith)
entry_back (And a b) good = placed 5 _ (good refl).0 (omega arith)
entry_back (Implies a b) good = placed 6 _ (good refl).0 (omega arith)
entry_back (Less a b) good = placed 7 _ (good refl).0 (omega arith)
entry_back (Equal a b) good = placed 8 _ (good refl).0 (omega arith)
entry_back (ImportedEvent i) good = placed 9 _ (good refl).0 (omega arith)
entry_back (Start a) good = placed 10 _ (good refl).0 (omega arith)
entry_back (End a) good = placed 11 _ (good refl).0 (omega arith)
entry_back (Both a b) good = placed 12 _ (good refl).0 (omega arith)
entry_back (Either a b) good = placed 13 _ (good refl).0 (omega arith)
entry_back (When a b) good = placed 14 _ (good refl).0 (omega arith)
entry_back (Constant z) good = constant_back z (by (eq_z z (pos 0)) refl)
  where
    by : (b : Bool) → eq_z z (pos 0) ≡ b → in_range z ≡ true
    by true same = zero_fits z same
    by false other = (good other).1
entry_back (Variable x) good = placed 16 _ (good refl).0 (omega arith)
entry_back (Sum a b) good = placed 17 _ (good refl).0 (omega arith)
entry_back (Difference a b) good = placed 18 _ (good refl).0 (omega arith)
entry_back Clock good = placed 19 _ (good refl).0 (omega arith)
entry_back (Value i) good = placed 20 _ (good refl).0 (omega arith)
entry_back (Time a) good = placed 21 _ (good refl).0 (omega arith)
entry_back (Update a x b) good = placed 22 _ (good refl).0 (omega arith)
entry_back (Alarm a) good = placed 23 _ (good refl).0 (omega arith)
entry_back (Property a) good = placed 24 _ (good refl).0 (omega arith)

-- an entry that looks inside the slots, and whose constant is in range, comes back
pub entry_again : (e : Entry) → Inside (places_of e) → in_range (constant_of (apart_of e).first) ≡ true → entry_of_word (entry_word e) ≡ e
entry_again e inside fits = entry_back e (λ other. (inside, fits))

-- "13: number outside 48 bits": no accepted constant is such a one
pub constant_fits : (t : Table) (k : ℕ) (os : List Operand) → operands_fault t k os ≡ Ok tt → in_range (constant_of (first_of os)) ≡ true
unfolding operands_fault operand_fault
constant_fits t k [] good = refl
constant_fits t k (entry s a ∷ rest) good = refl
constant_fits t k (imported s i ∷ rest) good = refl
constant_fits t k (variable x ∷ rest) good = refl
constant_fits t k (constant z ∷ rest) good =
    unless_accepted (in_range z) Refusal.Range (accepted_first (unless (in_range z) Refusal.Range) (operands_fault t k rest) good)
