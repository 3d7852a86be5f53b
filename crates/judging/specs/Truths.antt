-- The operators on words are those of table 4.2.
use Rattle.std.specs.Prelude.{Bool, true, false, cond, ◌&&◌, ◌||◌, ◌≡◌, refl, ℕ}
use Rattle.values.specs.declared.Truth.{Truth}
use Rattle.values.specs.declared.Truth.TheVariants.{Undefined, False, True}
use Rattle.values.specs.Truths.{not_t, or_t, and_t, implies_t, defined_t, truth_of, is_true, is_false}
use Rattle.words.specs.Words.{truth_word, property_word, either_word}
use Rattle.judging.specs.Leaves.{truth_by}

-- of two words, the one for what is so
pub either_word_lem : (b : Bool) (y n : ℕ) → cond b y n ≡ either_word b y n
either_word_lem true y n = refl
either_word_lem false y n = refl

-- what is known to hold or known not to
pub truth_word_lem : (b : Bool) → cond b 3 2 ≡ truth_word (truth_of b)
truth_word_lem true = refl
truth_word_lem false = refl

-- "defined": true unless the condition is undefined
pub defined_word_lem : (a : Truth) → cond (is_false a || is_true a) 3 2 ≡ truth_word (defined_t a)
defined_word_lem Undefined = refl
defined_word_lem False = refl
defined_word_lem True = refl

-- true where it is true, false where it is false
same_word : (a : Truth) → truth_by (is_true a) (is_false a) ≡ truth_word a
same_word Undefined = refl
same_word False = refl
same_word True = refl

-- "Not"
pub not_word_lem : (a : Truth) → truth_by (is_false a) (is_true a) ≡ truth_word (not_t a)
not_word_lem Undefined = refl
not_word_lem False = refl
not_word_lem True = refl

-- "or"
pub or_word : (a b : Truth) → truth_by (is_true a || is_true b) (is_false a && is_false b) ≡ truth_word (or_t a b)
or_word True b = refl
or_word False b = same_word b
or_word Undefined True = refl
or_word Undefined False = refl
or_word Undefined Undefined = refl

-- "a and b"
pub and_word : (a b : Truth) → truth_by (is_true a && is_true b) (is_false a || is_false b) ≡ truth_word (and_t a b)
and_word True True = refl
and_word True False = refl
and_word True Undefined = refl
and_word False b = refl
and_word Undefined True = refl
and_word Undefined False = refl
and_word Undefined Undefined = refl

-- "a implies b"
pub implies_word_lem : (a b : Truth) → truth_by (is_false a || is_true b) (is_true a && is_false b) ≡ truth_word (implies_t a b)
implies_word_lem True b = same_word b
implies_word_lem False b = refl
implies_word_lem Undefined True = refl
implies_word_lem Undefined False = refl
implies_word_lem Undefined Undefined = refl

-- "A property is violated where its condition is false; undefined is reported as not known."
pub property_word_lem : (a : Truth) → cond (is_true a) 13 (cond (is_false a) 12 11) ≡ property_word a
property_word_lem Undefined = refl
property_word_lem False = refl
property_word_lem True = refl
