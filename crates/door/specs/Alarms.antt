-- The next result that calls for somebody: an alarm that is raised, or a property that is violated.
use Rattle.std.specs.Prelude.{Bool, true, false, cond, ◌||◌, List, ◌≡◌, refl, ℕ, zero, suc, ◌+◌, ◌-◌, ◌<◌, ◌≤◌, eqb, get_or}
use Rattle.std.proofs.Math.Path.{sym}
use Rattle.std.proofs.Common.{ap, ap₂, ◌∙◌, add-one, arith, ne_eqb}
use Rattle.std.proofs.Math.Decide.{ℕ_discrete}
use Rattle.std.proofs.Math.ListN.{length}
use Rattle.values.specs.declared.Truth.{Truth}
use Rattle.values.specs.declared.Outcome.{Outcome}
use Rattle.values.specs.Truths.{is_false}
use Rattle.words.specs.Words.{outcome_word}
use Rattle.words.specs.Results.{of_word, of_whole}

-- the word of an alarm that is raised, or of a property that is violated
abbrev pub calls : ℕ → Bool
calls word = eqb word 10 || eqb word 12

-- the first of `left` places from k on with such a word, and the number of slots where there is none
unfoldable pub next_from : List ℕ → ℕ → ℕ → ℕ
next_from words zero k = length words
next_from words (suc left) k = cond (calls (get_or words k 0)) k (next_from words left (suc k))

-- the first place from k on, of all that there are
unfoldable pub next_alarm : List ℕ → ℕ → ℕ
next_alarm words k = next_from words (length words - k) k

-- one place is looked at
one_more : (words : List ℕ) (k : ℕ) → k < length words → next_alarm words k ≡ cond (calls (get_or words k 0)) k (next_alarm words (suc k))
unfolding next_alarm next_from
one_more words k there = ap (λ (left : ℕ). next_from words left k) {x = length words - k} {y = suc (length words - suc k)} (omega arith)

-- the first place from k on is the first from `from` on
module _ (words : List ℕ) (from k : ℕ) (so : next_alarm words k ≡ next_alarm words from) where
  -- k calls
  pub next_here : {b : Bool} → k < length words → b ≡ calls (get_or words k 0) → b ≡ true → k ≡ next_alarm words from
  next_here there looked calling = sym (one_more words k there ∙ ap (λ (t : Bool). cond t k (next_alarm words (suc k))) (sym looked ∙ calling)) ∙ so

  -- or it does not
  pub next_on : {b : Bool} → k < length words → b ≡ calls (get_or words k 0) → b ≡ false → next_alarm words (k + 1) ≡ next_alarm words from
  next_on there looked silent =
      ap (next_alarm words) (add-one k) ∙ sym (one_more words k there ∙ ap (λ (t : Bool). cond t k (next_alarm words (suc k))) (sym looked ∙ silent)) ∙ so

  -- or there is none left
  pub next_none : length words ≤ k → length words ≡ next_alarm words from
  unfolding next_alarm next_from
  next_none past = sym (ap (λ (left : ℕ). next_from words left k) {x = length words - k} {y = 0} (omega arith)) ∙ so

-- ---- what was found

-- `found` is the first place from `from` on that calls; where there is none it is the number of slots
pub record FirstCall (words : List ℕ) (from found : ℕ) : Type 0 where
  pub within : found ≤ length words
  pub here : found < length words → (from ≤ found) × (calls (get_or words found 0) ≡ true)
  pub none_before : (j : ℕ) → from ≤ j → j < found → calls (get_or words j 0) ≡ false

-- of so many places up to the last
first_of : (words : List ℕ) (left k : ℕ) → left ≡ length words - k → FirstCall words k (next_from words left k)
unfolding next_from
first_of words zero k up =
    record { within = omega arith; here = λ h. absurd (omega arith); none_before = λ j from before. absurd (omega arith) }
first_of words (suc left) k up = by (calls (get_or words k 0)) refl (first_of words left (suc k) (omega arith))
  where
    by : (b : Bool) → calls (get_or words k 0) ≡ b → FirstCall words (suc k) (next_from words left (suc k))
        → FirstCall words k (cond b k (next_from words left (suc k)))
    by true so later = record { within = omega arith; here = λ h. (omega arith, so); none_before = λ j from before. absurd (omega arith) }
    by false so later =
        record {
          within = later.within;
          here = λ h. let there = later.here h in (omega (arith, there.0), there.1);
          none_before = λ j from before.
              elim (ℕ_discrete j k) [
                | yes e ↦ ap (λ (i : ℕ). calls (get_or words i 0)) e ∙ so
                | no e ↦ later.none_before j (omega arith) before
              ];
        }

-- what nimbra_next_alarm gives is the first place that calls
pub next_first : (words : List ℕ) (from : ℕ) → FirstCall words from (next_alarm words from)
unfolding next_alarm
next_first words from = first_of words (length words - from) from refl

-- "An alarm is raised ...": a result that calls for somebody; "violated": a property whose condition is false
abbrev pub calling : Outcome → Bool
calling (Outcome.Raised b) = b
calling (Outcome.Property c) = is_false c
calling Outcome.Nothing = false
calling (Outcome.Condition c) = false
calling (Outcome.Event b) = false
calling (Outcome.Numeric x) = false
calling (Outcome.Done b) = false

-- the words that call are those of the results that do
pub calls_word : (o : Outcome) → calls (outcome_word o) ≡ calling o
calls_word o =
    of_word calls calling refl o
    (λ z is. of_whole (λ w. calls w ≡ false) z refl (λ w high. ap₂ ◌||◌ (ne_eqb w 10 (λ same. omega arith)) (ne_eqb w 12 (λ same. omega arith))))
