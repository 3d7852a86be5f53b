-- What a caller may look at of a step that was heard: the refusal, or the time and the words. It is determined.
use Rattle.std.specs.Prelude.{List, [], ◌≡◌, refl, ℕ, Result, Ok, Err}
use Rattle.std.proofs.Common.{sym, ◌∙◌, ap, ap₂}
use Rattle.refusals.specs.declared.Refusal.{Refusal}
use Rattle.refusals.specs.Answers.{Answer}
use Rattle.table.specs.declared.Table.{Table}
use Rattle.step.specs.Reader.{read_step}
use Rattle.step.specs.Taking.{taken_of}
use Rattle.hearing.specs.Hearing.{told_words, answer_of, Heard}

-- a refusal, or a time and a word for each import
pub data Reply : Type 0 where
  refusing : Refusal → Reply
  telling : ℕ → List ℕ → Reply

-- what a caller may look at: the time and the words only where nothing was refused
abbrev pub reply_of : Result ℕ Refusal → List ℕ → Reply
reply_of (Ok time) words = telling time words
reply_of (Err r) words = refusing r

-- the same of what is taken of a step
abbrev pub reply_by : Answer → ℕ → List ℕ → Reply
reply_by (Ok _) time words = telling time words
reply_by (Err r) time words = refusing r

-- the reply to what was heard, by its answer, at a time and words that are its own where it is accepted
reply_is : (heard : Result ℕ Refusal) {time : ℕ} {words own : List ℕ} → ((t : ℕ) → heard ≡ Ok t → t ≡ time) → ((t : ℕ) → heard ≡ Ok t → own ≡ words)
    → reply_of heard own ≡ reply_by (answer_of heard) time words
reply_is (Ok t) times words = ap₂ telling (times t refl) (words t refl)
reply_is (Err r) times words = refl

module _ {t : Table} {earliest : ℕ} {s : List ℕ} where
  -- what was heard is the step's own reply
  heard_reply : {heard : Result ℕ Refusal} {words : List ℕ} → Heard t earliest s heard words → let taken = taken_of [] (read_step t earliest s 0) in
      reply_of heard words ≡ reply_by taken.answer taken.time (told_words taken.told)
  heard_reply {heard} {words} is =
      let taken = taken_of [] (read_step t earliest s 0) in
      reply_is heard (is.time []) (is.told []) ∙ ap (λ (a : Answer). reply_by a taken.time (told_words taken.told)) (is.answer [])

  -- two replies that were heard are the same
  pub heard_same : {h₁ h₂ : Result ℕ Refusal} {words₁ words₂ : List ℕ} → Heard t earliest s h₁ words₁ → Heard t earliest s h₂ words₂
      → reply_of h₁ words₁ ≡ reply_of h₂ words₂
  heard_same p q = heard_reply p ∙ sym (heard_reply q)

-- two replies that a contract allows, at the same arguments and as a caller sees them, are equal where something is given of the arguments
pub record DeterminedWhere {ℓ} {K : Type ℓ} {A R S : K → Type 0} {F : Type 0} (Post : (κs : K) → A κs → R κs → S κs → Type 0)
    (given : (κs : K) → A κs → Type 0) (seen : (κs : K) → R κs → S κs → F) : Type ℓ where
  pub same : (κs : K) (a : A κs) (r₁ r₂ : R κs) (s₁ s₂ : S κs) → given κs a → Post κs a r₁ s₁ → Post κs a r₂ s₂ → seen κs r₁ s₁ ≡ seen κs r₂ s₂
