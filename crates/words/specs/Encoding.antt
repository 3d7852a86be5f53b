-- How the word of an entry is put together from its operands, and how large the words are.
use Rattle.std.specs.Prelude.{Bool, true, false, cond, ◌≡◌, refl, ℕ, ◌+◌, ◌*◌, ◌<◌, ◌^◌, ℤ, pos, negsuc}
use Rattle.std.proofs.Common.{sym, ◌∙◌, ap, arith, ltb-true}
use Rattle.values.specs.declared.Number.{Number}
use Rattle.values.specs.Numbers.{in_range}
use Rattle.table.specs.declared.Entry.{Entry}
use Rattle.table.specs.declared.Entry.TheVariants.{ImportedCondition, Defined, Pair, Not, Or, And, Implies, Less, Equal, ImportedEvent, Start, End, Both, Either, When, Constant, Variable, Sum, Difference, Clock, Value, Time, Update, Alarm, Property}
use Rattle.table.specs.Kinds.{operands_of}
use Rattle.kinds.specs.declared.Operand.{Operand}
use Rattle.kinds.specs.declared.Apart.{Apart}
use Rattle.kinds.specs.Apart.{apart_of}
use Rattle.kinds.specs.Laws.{kind_lt}
use Rattle.meaning.specs.declared.Places.{Places}
use Rattle.meaning.specs.Places.{places_of}
use Rattle.words.specs.Words.{undefined_word, shifted, number_word, place_word, operand_word, entry_word}

-- an entry stands lowest, a second one 7 bits higher
abbrev pub entry_unit : Bool → ℕ
entry_unit second = cond second 128 1

-- what an operand adds to where its entry looks
abbrev pub placed_word : Operand → ℕ → ℕ
placed_word Operand.Nothing unit = 0
placed_word (Operand.Entry s a) unit = unit * a
placed_word (Operand.Imported s i) unit = 524288 * i
placed_word (Operand.Variable x) unit = 16384 * x
placed_word (Operand.Constant z) unit = 0

-- where an entry looks is what its three operands add
pub place_sum : (e : Entry)
    → place_word (places_of e) ≡ placed_word (apart_of e).first 1 + placed_word (apart_of e).second 128 + placed_word (apart_of e).third 128
unfolding places_of apart_of operands_of
place_sum (ImportedCondition i) = omega arith
place_sum (Defined a) = omega arith
place_sum (Pair a b) = omega arith
place_sum (Not a) = omega arith
place_sum (Or a b) = omega arith
place_sum (And a b) = omega arith
place_sum (Implies a b) = omega arith
place_sum (Less a b) = omega arith
place_sum (Equal a b) = omega arith
place_sum (ImportedEvent i) = omega arith
place_sum (Start a) = omega arith
place_sum (End a) = omega arith
place_sum (Both a b) = omega arith
place_sum (Either a b) = omega arith
place_sum (When a b) = omega arith
place_sum (Constant z) = omega arith
place_sum (Variable x) = omega arith
place_sum (Sum a b) = omega arith
place_sum (Difference a b) = omega arith
place_sum Clock = omega arith
place_sum (Value i) = omega arith
place_sum (Time a) = omega arith
place_sum (Update a x b) = omega arith
place_sum (Alarm a) = omega arith
place_sum (Property a) = omega arith

-- a whole number in range is less than 2^47 away from the word of 0
pub shifted_small : (z : ℤ) → in_range z ≡ true → shifted z < 2 ^ 49
shifted_small (pos n) is = omega (arith, ltb-true n (2 ^ 47) is)
shifted_small (negsuc n) is = omega arith

-- the word of a whole number has 49 bits at most
pub whole_small : (z : ℤ) → number_word (Number.Whole z) < 2 ^ 49
whole_small z = by (in_range z) refl
  where
    by : (t : Bool) → in_range z ≡ t → cond t (shifted z) undefined_word < 2 ^ 49
    by true is = shifted_small z is
    by false is = omega arith

-- an entry is of one of 25 kinds
pub kind_small : (e : Entry) {a : Apart} → a ≡ apart_of e → a.kind < 25
unfolding apart_of
kind_small e apart = omega (arith, ap (λ (a : Apart). a.kind) apart, kind_lt e)

-- an entry's word, from what its operands add and the word that follows its kind
pub entry_made : (e : Entry) {a : Apart} {x y z w : ℕ} → a ≡ apart_of e
    → x ≡ placed_word a.first 1 → y ≡ placed_word a.second 128 → z ≡ placed_word a.third 128
    → ((p : Places) → place_word p ≡ x + y + z → w ≡ operand_word a.first p) → a.kind + 32 * w ≡ entry_word e
unfolding entry_word apart_of
entry_made e {a} {x} {y} {z} {w} apart first second third word =
    let sum : place_word (places_of e) ≡ x + y + z =
    place_sum e
    ∙ sym
    (λ i. (first ∙ ap (λ (b : Apart). placed_word b.first 1) apart) i
    + (second ∙ ap (λ (b : Apart). placed_word b.second 128) apart) i
    + (third ∙ ap (λ (b : Apart). placed_word b.third 128) apart) i) in
    let is : w ≡ operand_word (apart_of e).first (places_of e) =
    word (places_of e) sum ∙ ap (λ (b : Apart). operand_word b.first (places_of e)) apart in
    λ i. (apart i).kind + 32 * is i
