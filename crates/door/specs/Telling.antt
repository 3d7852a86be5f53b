-- A result's word tells the result: no two results in range have the same.
use Rattle.std.specs.Prelude.{true, cond, List, ◌≡◌, refl, ℕ, ◌/◌, ◌^◌, eqb, ℤ, get_or}
use Rattle.std.proofs.Common.{sym, ap, ◌∙◌, subst, eq-eqb}
use Rattle.values.specs.declared.Number.{Number}
use Rattle.values.specs.declared.Outcome.{Outcome}
use Rattle.values.specs.Numbers.{in_range, fits_n}
use Rattle.values.specs.Outcomes.{number_in}
use Rattle.words.specs.Words.{shifted, number_word, outcome_word}
use Rattle.words.specs.Results.{small_results, of_word}
use Rattle.words.specs.Unpacking.{whole_of_word}
use Rattle.words.specs.Again.{shifted_high, shifted_again}

-- the result that a word stands for, as a caller reads it: a whole number from 2^48 up to 2^49, else by the list
unfoldable pub result_told : ℕ → Outcome
result_told w = cond (eqb (w / 2 ^ 48) 1) (Outcome.Numeric (Number.Whole (whole_of_word w))) (get_or small_results w Outcome.Nothing)

-- a result in range is read again from its word
pub told_again : (o : Outcome) → fits_n (number_in o) ≡ true → result_told (outcome_word o) ≡ o
unfolding result_told
told_again o fits = of_word result_told (λ x. x) refl o (λ z is. whole z (subst (λ (x : Outcome). fits_n (number_in x) ≡ true) is fits))
  where
    whole : (z : ℤ) → in_range z ≡ true → result_told (number_word (Number.Whole z)) ≡ Outcome.Numeric (Number.Whole z)
    whole z within = rw (within, eq-eqb (shifted z / 2 ^ 48) 1 (shifted_high z within)) (ap (λ x. Outcome.Numeric (Number.Whole x)) (shifted_again z within))

-- so the word tells the result
pub word_tells : (a b : Outcome) → fits_n (number_in a) ≡ true → fits_n (number_in b) ≡ true → outcome_word a ≡ outcome_word b → a ≡ b
word_tells a b fa fb same = sym (told_again a fa) ∙ ap result_told same ∙ told_again b fb
