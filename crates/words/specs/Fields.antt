-- The fields of an entry's word: its kind, and where it looks.
use Rattle.std.specs.Prelude.{◌≡◌, refl, ℕ, ◌+◌, ◌*◌, ◌/◌, ◌%◌, ◌^◌, ◌<◌}
use Rattle.std.proofs.Common.{sym, subst, arith}
use Rattle.std.proofs.Math.Pow.{low}
use Rattle.table.specs.declared.Entry.{Entry}
use Rattle.table.specs.declared.Entry.TheVariants.{ImportedCondition, Defined, Pair, Not, Or, And, Implies, Less, Equal, ImportedEvent, Start, End, Both, Either, When, Constant, Variable, Sum, Difference, Clock, Value, Time, Update, Alarm, Property}
use Rattle.table.specs.Kinds.{kind_of, operands_of}
use Rattle.kinds.specs.Apart.{apart_of}
use Rattle.kinds.specs.Laws.{kind_lt}
use Rattle.meaning.specs.declared.Places.{Places}
use Rattle.meaning.specs.Places.{places_of}
use Rattle.meaning.specs.Inside.{Inside}
use Rattle.words.specs.Words.{place_word, entry_word}

-- 7 bits for each of two entries, 5 for a variable and 6 for an import, after 5 bits of kind
pub record Fields (p : Places) (w : ℕ) : Type 0 where
  pub first : w / 32 % 128 ≡ p.first
  pub second : w / 4096 % 128 ≡ p.second
  pub variable : w / 524288 % 32 ≡ p.variable
  pub imported : w / 16777216 % 64 ≡ p.imported

-- the lowest bits of a number that is made of high and low ones
lowest : (width n high low_bits : ℕ) → n ≡ high * 2 ^ width + low_bits → low_bits < 2 ^ width → n % 2 ^ width ≡ low_bits
lowest width n high low_bits e h = rw e (low high width h)

-- places inside the slots are the fields of the word that is made of them
pub place_fields : (kind : ℕ) (p : Places) → Inside p → kind < 32 → Fields p (kind + 32 * place_word p)
place_fields kind p inside few =
    let w = kind + 32 * place_word p in
    record {
      first = lowest 7 (w / 32) (p.second + 128 * (p.variable + 32 * p.imported)) p.first (omega arith) inside.first;
      second = lowest 7 (w / 4096) (p.variable + 32 * p.imported) p.second (omega arith) inside.second;
      variable = lowest 5 (w / 524288) p.imported p.variable (omega arith) inside.variable;
      imported = lowest 6 (w / 16777216) 0 p.imported (omega arith) (omega (arith, inside.imported));
    }

-- any entry but a constant is its kind and where it looks
not_constant : (e : Entry) → (kind_of e ≡ 15 → ⊥) → entry_word e ≡ kind_of e + 32 * place_word (places_of e)
unfolding entry_word kind_of operands_of places_of apart_of
not_constant (ImportedCondition i) other = refl
not_constant (Defined a) other = refl
not_constant (Pair a b) other = refl
not_constant (Not a) other = refl
not_constant (Or a b) other = refl
not_constant (And a b) other = refl
not_constant (Implies a b) other = refl
not_constant (Less a b) other = refl
not_constant (Equal a b) other = refl
not_constant (ImportedEvent i) other = refl
not_constant (Start a) other = refl
not_constant (End a) other = refl
not_constant (Both a b) other = refl
not_constant (Either a b) other = refl
not_constant (When a b) other = refl
not_constant (Constant z) other = absurd (other refl)
not_constant (Variable x) other = refl
not_constant (Sum a b) other = refl
not_constant (Difference a b) other = refl
not_constant Clock other = refl
not_constant (Value i) other = refl
not_constant (Time a) other = refl
not_constant (Update a x b) other = refl
not_constant (Alarm a) other = refl
not_constant (Property a) other = refl

-- so where it looks are the fields of its word
pub entry_fields : (e : Entry) → (kind_of e ≡ 15 → ⊥) → Inside (places_of e) → Fields (places_of e) (entry_word e)
entry_fields e other inside =
    subst (Fields (places_of e)) (sym (not_constant e other)) (place_fields (kind_of e) (places_of e) inside (omega (arith, kind_lt e)))
