-- 29 for words, as it is found: whether they are those of the monitor in them, and then that monitor.
use Rattle.std.specs.Prelude.{Bool, true, false, List, ◌≡◌, refl, ℕ, zero, suc, eqb, length, Ok, Err}
use Rattle.std.proofs.Math.Path.{sym, ap}
use Rattle.std.proofs.Math.Decide.{ℕ_discrete}
use Rattle.std.proofs.Common.{◌∙◌, eq-eqb, ne_eqb, eqb-true}
use Rattle.bits.specs.Filled.{list_is}
use Rattle.refusals.specs.declared.Refusal.{Refusal}
use Rattle.refusals.specs.Answers.{Answer}
use Rattle.refusals.specs.Numbering.{unless, and_then, first_fault}
use Rattle.refusals.specs.Accepting.{not_accepted, unless_accepted, none_at_fault, no_fault}
use Rattle.monitor.specs.Keeping.{unsound}
use Rattle.words.specs.Layout.{state_words, word_at, state_of}
use Rattle.words.specs.Standing.{length_state, word_there}
use Rattle.words.specs.Unpacking.{word_in, monitor_in, word_fault, state_fault}

module _ (r : Refusal) where
  -- one test more that gives that refusal and no other
  one_more : (a : Answer) (b : Bool) → ((a ≡ Ok tt → ⊥) → a ≡ Err r) → (and_then a (unless b r) ≡ Ok tt → ⊥)
      → and_then a (unless b r) ≡ Err r
  one_more (Ok _) true before some = absurd (some refl)
  one_more (Ok _) false before some = refl
  one_more (Err q) b before some = before (not_accepted q)

  -- where each test gives it, it is the first fault, if there is one
  one_refusal : (test : ℕ → Bool) (n : ℕ) → (first_fault n (λ j. unless (test j) r) ≡ Ok tt → ⊥)
      → first_fault n (λ j. unless (test j) r) ≡ Err r
  unfolding first_fault
  one_refusal test zero some = absurd (some refl)
  one_refusal test (suc n) some = one_more (first_fault n (λ j. unless (test j) r)) (test n) (one_refusal test n) some

module _ (words : List ℕ) where
  abbrev first : Answer
  first = first_fault state_words (word_fault words)

  -- the words of the monitor in them are without fault
  none_same : words ≡ state_of (monitor_in words) → first ≡ Ok tt
  none_same same =
      no_fault state_words (word_fault words)
      (λ j h. ap (λ (b : Bool). unless b Refusal.Unsound) (eq-eqb _ _ (ap (λ (l : List ℕ). word_in l j) same ∙ word_there (monitor_in words) j h)))

  -- and words of that number that are without fault are those
  same_none : length words ≡ state_words → first ≡ Ok tt → words ≡ state_of (monitor_in words)
  unfolding state_of
  same_none long none =
      list_is state_words (word_at (monitor_in words)) 0 words long
      (λ j h. eqb-true _ _ (unless_accepted _ Refusal.Unsound (none_at_fault state_words (word_fault words) none j h)))

  -- how many words there are is judged first
  pub length_decides : (length words ≡ state_words → ⊥) → Err Refusal.Unsound ≡ state_fault words
  unfolding state_fault
  length_decides other = rw (ne_eqb (length words) state_words other)

  module _ {again : List ℕ} (is : again ≡ state_of (monitor_in words)) where
    -- the same words: the monitor decides
    pub same_decides : words ≡ again → {a : Answer} → a ≡ unsound (monitor_in words) → a ≡ state_fault words
    unfolding state_fault
    same_decides same said =
        rw (eq-eqb (length words) state_words (ap length (same ∙ is) ∙ length_state (monitor_in words)), none_same (same ∙ is)) said

    -- others: a fault
    pub others_decide : (words ≡ again → ⊥) → Err Refusal.Unsound ≡ state_fault words
    unfolding state_fault
    others_decide other = by (ℕ_discrete (length words) state_words)
      where
        by : Dec (length words ≡ state_words) → Err Refusal.Unsound ≡ state_fault words
        by (no short) = length_decides short
        by (yes long) =
            rw (
              eq-eqb (length words) state_words long,
              one_refusal Refusal.Unsound (λ j. eqb (word_in words j) (word_at (monitor_in words) j)) state_words (λ none. other (same_none long none ∙ sym is)),
            ) refl
