-- What the tests of a word say of what it is the word of.
use Rattle.std.specs.Prelude.{Bool, true, false, cond, ◌≡◌, refl, ℕ, zero, suc, ◌<◌, ◌≤◌, ◌^◌, eqb, leb, ℤ, pos, negsuc}
use Rattle.std.proofs.Common.{sym, subst, arith, ltb-true, leb-true, leb-false, lt-ltb, le-ltb, le-leb, ne_eqb}
use Rattle.std.proofs.Math.Dec.{eqb-suc-zero}
use Rattle.values.specs.declared.Truth.{Truth}
use Rattle.values.specs.declared.Number.{Number}
use Rattle.values.specs.declared.Outcome.{Outcome}
use Rattle.values.specs.declared.Outcome.TheVariants.{Nothing, Condition, Event, Numeric, Done, Raised, Property}
use Rattle.values.specs.Truths.{is_true, is_false}
use Rattle.values.specs.Numbers.{in_range, fits_n}
use Rattle.values.specs.Outcomes.{condition_in, event_in, number_in}
use Rattle.step.specs.declared.Told.{Told}
use Rattle.step.specs.Steps.{occurs_in, value_in}
use Rattle.memory.specs.Recall.{time_kept, kept_time}
use Rattle.words.specs.Words.{shifted, undefined_word, number_word, outcome_word, told_word}
use Rattle.judging.specs.Leaves.{value_word, kept_word}
use Rattle.judging.specs.Whole.{Counted, unknown, counted}

-- a number's word is 4, or past every other result's
high_enough : (x : Number) → (4 ≤ number_word x) × ((n : ℕ) → 4 < n → n < 2 ^ 47 → number_word x ≡ n → ⊥)
high_enough Number.Undefined = (omega arith, λ n f g e. omega arith)
high_enough (Number.Whole z) = by z (in_range z) refl
  where
    by : (z : ℤ) (t : Bool) → in_range z ≡ t → (4 ≤ cond t (shifted z) undefined_word) × ((n : ℕ) → 4 < n → n < 2 ^ 47 → cond t (shifted z) undefined_word ≡ n → ⊥)
    by z false out = (omega arith, λ n f g e. omega arith)
    by (pos k) true fits = (omega arith, λ n f g e. omega arith)
    by (negsuc k) true fits = let low = ltb-true k (2 ^ 47) fits in (omega arith, λ n f g e. omega arith)

-- of each result: whether its word is that of true, of false, and of an event that occurs
words_tested : (o : Outcome) → (eqb (outcome_word o) 3 ≡ is_true (condition_in o)) × (eqb (outcome_word o) 2 ≡ is_false (condition_in o)) × (eqb (outcome_word o) 6 ≡ event_in o)
unfolding outcome_word
words_tested Nothing = (refl, refl, refl)
words_tested (Condition Truth.Undefined) = (refl, refl, refl)
words_tested (Condition Truth.False) = (refl, refl, refl)
words_tested (Condition Truth.True) = (refl, refl, refl)
words_tested (Event true) = (refl, refl, refl)
words_tested (Event false) = (refl, refl, refl)
words_tested (Numeric x) =
    let low = (high_enough x).0 in
    (ne_eqb (number_word x) 3 (λ e. omega arith), ne_eqb (number_word x) 2 (λ e. omega arith), ne_eqb (number_word x) 6 ((high_enough x).1 6 (omega arith) (omega arith)))
words_tested (Done true) = (refl, refl, refl)
words_tested (Done false) = (refl, refl, refl)
words_tested (Raised true) = (refl, refl, refl)
words_tested (Raised false) = (refl, refl, refl)
words_tested (Property Truth.Undefined) = (refl, refl, refl)
words_tested (Property Truth.False) = (refl, refl, refl)
words_tested (Property Truth.True) = (refl, refl, refl)

-- what the three tests of a word say
pub record Tested (o : Outcome) (x : ℕ) : Type 0 where
  pub holds : eqb x 3 ≡ is_true (condition_in o)
  pub fails : eqb x 2 ≡ is_false (condition_in o)
  pub occurs : eqb x 6 ≡ event_in o

-- the word of a result says of it what it is
pub tested : (o : Outcome) {x : ℕ} → x ≡ outcome_word o → Tested o x
tested o is = let t = words_tested o in subst (Tested o) (sym is) (record { holds = t.0; fails = t.1; occurs = t.2 })

-- the word of a result stands for the number that an operand takes from it
number_tested : (o : Outcome) → fits_n (number_in o) ≡ true → Counted (number_in o) (outcome_word o)
unfolding outcome_word
number_tested Nothing fits = unknown refl
number_tested (Condition Truth.Undefined) fits = unknown refl
number_tested (Condition Truth.False) fits = unknown refl
number_tested (Condition Truth.True) fits = unknown refl
number_tested (Event true) fits = unknown refl
number_tested (Event false) fits = unknown refl
number_tested (Numeric x) fits = counted x fits
number_tested (Done true) fits = unknown refl
number_tested (Done false) fits = unknown refl
number_tested (Raised true) fits = unknown refl
number_tested (Raised false) fits = unknown refl
number_tested (Property Truth.Undefined) fits = unknown refl
number_tested (Property Truth.False) fits = unknown refl
number_tested (Property Truth.True) fits = unknown refl

-- the same of a word that is said to be its
pub numbered : (o : Outcome) {x : ℕ} → x ≡ outcome_word o → fits_n (number_in o) ≡ true → Counted (number_in o) x
numbered o is fits = subst (Counted (number_in o)) (sym is) (number_tested o fits)

-- "An imported event occurs in the steps that report it."
pub occurs_told : (t : Told) → leb 4 (told_word t) ≡ occurs_in t
occurs_told Told.Nothing = refl
occurs_told (Told.Condition Truth.Undefined) = refl
occurs_told (Told.Condition Truth.False) = refl
occurs_told (Told.Condition Truth.True) = refl
occurs_told (Told.Event x) = le-leb 4 (number_word x) (high_enough x).0

-- "Value is the value reported in this step, else undefined."
pub value_told : (t : Told) → value_word (told_word t) ≡ number_word (value_in t)
value_told Told.Nothing = refl
value_told (Told.Condition Truth.Undefined) = refl
value_told (Told.Condition Truth.False) = refl
value_told (Told.Condition Truth.True) = refl
value_told (Told.Event x) = rw (occurs_told (Told.Event x))

-- the time that is kept
pub kept_word_lem : (c : ℕ) → kept_word c ≡ number_word (kept_time c)
kept_word_lem zero = refl
kept_word_lem (suc t) = by (leb (suc t) (2 ^ 47)) refl
  where
    by : (b : Bool) → leb (suc t) (2 ^ 47) ≡ b → kept_word (suc t) ≡ number_word (cond b (time_kept (suc t)) Number.Undefined)
    by true soon = rw (eqb-suc-zero t, le-ltb (2 ^ 47) (suc t) (leb-true (suc t) (2 ^ 47) soon), soon) (omega arith)
    by false late = rw (eqb-suc-zero t, lt-ltb (2 ^ 47) (suc t) (leb-false (suc t) (2 ^ 47) late))
