-- A result and its word, case by case once: fourteen results have the words 0 to 13, and a whole number in range has a word of its own.
use Rattle.std.specs.Prelude.{Bool, true, false, cond, ◌≡◌, ℕ, ◌/◌, ◌^◌, ℤ}
use mathlib.Core.List.{List, [], ◌∷◌, map}
use Rattle.std.proofs.Math.Path.{refl, ap}
use Rattle.std.proofs.Math.ListN.{get_or}
use Rattle.values.specs.declared.Truth.{Truth}
use Rattle.values.specs.declared.Number.{Number}
use Rattle.values.specs.declared.Outcome.{Outcome}
use Rattle.values.specs.Numbers.{in_range}
use Rattle.words.specs.Words.{shifted, undefined_word, number_word, outcome_word}
use Rattle.words.specs.Again.{shifted_high}

-- the results whose words are 0 to 13, in that order
abbrev pub small_results : List Outcome
small_results =
    Outcome.Nothing
    ∷ Outcome.Condition Truth.Undefined
    ∷ Outcome.Condition Truth.False
    ∷ Outcome.Condition Truth.True
    ∷ Outcome.Numeric Number.Undefined
    ∷ Outcome.Event false
    ∷ Outcome.Event true
    ∷ Outcome.Done false
    ∷ Outcome.Done true
    ∷ Outcome.Raised false
    ∷ Outcome.Raised true
    ∷ Outcome.Property Truth.Undefined
    ∷ Outcome.Property Truth.False
    ∷ Outcome.Property Truth.True
    ∷ []

-- those words
abbrev pub small_words : List ℕ
small_words = 0 ∷ 1 ∷ 2 ∷ 3 ∷ 4 ∷ 5 ∷ 6 ∷ 7 ∷ 8 ∷ 9 ∷ 10 ∷ 11 ∷ 12 ∷ 13 ∷ []

-- what is computed from a word is what is computed from its result, if it is so of the fourteen and of a whole number
module _ {A : Type 0} (f : ℕ → A) (g : Outcome → A) (small : map f small_words ≡ map g small_results) where
  pub of_word : (o : Outcome) → ((z : ℤ) → o ≡ Outcome.Numeric (Number.Whole z) → f (number_word (Number.Whole z)) ≡ g (Outcome.Numeric (Number.Whole z)))
      → f (outcome_word o) ≡ g o
  unfolding outcome_word
  of_word Outcome.Nothing whole = ap (λ (l : List A). get_or l 0 (f 0)) small
  of_word (Outcome.Condition Truth.Undefined) whole = ap (λ (l : List A). get_or l 1 (f 0)) small
  of_word (Outcome.Condition Truth.False) whole = ap (λ (l : List A). get_or l 2 (f 0)) small
  of_word (Outcome.Condition Truth.True) whole = ap (λ (l : List A). get_or l 3 (f 0)) small
  of_word (Outcome.Numeric Number.Undefined) whole = ap (λ (l : List A). get_or l 4 (f 0)) small
  of_word (Outcome.Numeric (Number.Whole z)) whole = whole z refl
  of_word (Outcome.Event false) whole = ap (λ (l : List A). get_or l 5 (f 0)) small
  of_word (Outcome.Event true) whole = ap (λ (l : List A). get_or l 6 (f 0)) small
  of_word (Outcome.Done false) whole = ap (λ (l : List A). get_or l 7 (f 0)) small
  of_word (Outcome.Done true) whole = ap (λ (l : List A). get_or l 8 (f 0)) small
  of_word (Outcome.Raised false) whole = ap (λ (l : List A). get_or l 9 (f 0)) small
  of_word (Outcome.Raised true) whole = ap (λ (l : List A). get_or l 10 (f 0)) small
  of_word (Outcome.Property Truth.Undefined) whole = ap (λ (l : List A). get_or l 11 (f 0)) small
  of_word (Outcome.Property Truth.False) whole = ap (λ (l : List A). get_or l 12 (f 0)) small
  of_word (Outcome.Property Truth.True) whole = ap (λ (l : List A). get_or l 13 (f 0)) small

-- the word of a whole number stands from 2^48 up to 2^49, or it is that of an undefined one, where the number is out of range
pub of_whole : (P : ℕ → Type 0) (z : ℤ) → P undefined_word → ((w : ℕ) → w / 2 ^ 48 ≡ 1 → P w) → P (number_word (Number.Whole z))
of_whole P z undefined high = by (in_range z) refl
  where
    by : (b : Bool) → in_range z ≡ b → P (cond b (shifted z) undefined_word)
    by true fits = high (shifted z) (shifted_high z fits)
    by false fits = undefined
