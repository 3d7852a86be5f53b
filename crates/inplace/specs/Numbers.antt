-- What an update takes from a result's word, and whether it was done.
use Rattle.std.specs.Prelude.{true, false, cond, ◌≡◌, refl, ℕ, ◌/◌, ◌^◌, eqb}
use Rattle.std.proofs.Common.{sym, ◌∙◌, eq-eqb, ne_eqb, arith}
use Rattle.values.specs.declared.Outcome.{Outcome}
use Rattle.values.specs.Outcomes.{number_in, is_done}
use Rattle.replies.specs.Plain.{never}
use Rattle.table.specs.declared.Entry.{Entry}
use Rattle.table.specs.Kinds.{kind_of}
use Rattle.meaning.specs.declared.Givens.{Givens}
use Rattle.meaning.specs.Meaning.{meaning}
use Rattle.knowing.specs.Carrying.{Carries, a_pair, a_start, an_end, a_time, an_update_lem, other, carries}
use Rattle.words.specs.Words.{undefined_word, number_word, outcome_word}
use Rattle.words.specs.Results.{of_word, of_whole}

-- the word of the number in a result: its own, if it is a whole number's, and else that of an undefined one
abbrev pub number_taken : ℕ → ℕ
number_taken y = cond (eqb (y / 2 ^ 48) 1) y undefined_word

-- "An update whose event occurs gives the variable that number, undefined included."
pub number_taken_lem : (o : Outcome) → number_taken (outcome_word o) ≡ number_word (number_in o)
number_taken_lem o =
    of_word number_taken (λ x. number_word (number_in x)) refl o
    (λ z is. of_whole (λ w. number_taken w ≡ w) z refl (λ w high. rw (eq-eqb (w / 2 ^ 48) 1 high) refl))

-- "done or not done"
pub done_word_lem : (o : Outcome) → eqb (outcome_word o) 8 ≡ is_done o
done_word_lem o = of_word (λ w. eqb w 8) is_done refl o (λ z is. of_whole (λ w. eqb w 8 ≡ false) z refl (λ w high. ne_eqb w 8 (λ same. omega arith)))

-- only an update is done, and no constant is one
pub not_a_constant : (e : Entry) (x y : Outcome) (g : Givens) → is_done (meaning e x y g) ≡ true → kind_of e ≡ 15 → ⊥
unfolding kind_of
not_a_constant e x y g done constant = by (carries e) done constant
  where
    by : {d : Entry} → Carries d → is_done (meaning d x y g) ≡ true → kind_of d ≡ 15 → ⊥
    by (a_pair a b) is same = omega arith
    by (a_start a) is same = omega arith
    by (an_end a) is same = omega arith
    by (a_time a) is same = omega arith
    by (an_update_lem a v b) is same = omega arith
    by (other kept changes none same) is at = never (sym (none x y g) ∙ is)
