-- The lines of a step by the words of its results, and that they are the lines of its reply.
use Rattle.std.specs.Prelude.{true, cond, ◌≡◌, refl, ℕ, zero, suc, ◌<◌, eqb, get_or, Ok, Err}
use mathlib.Core.List.{List, [], ◌∷◌, ◌++◌}
use Rattle.std.proofs.Common.{sym, ◌∙◌, ap, ap₂, subst, arith}
use borrow.Author.Tests.{eq-eqb, ne_eqb}
use Rattle.values.specs.declared.Truth.{Truth}
use Rattle.values.specs.declared.Outcome.{Outcome}
use Rattle.refusals.specs.declared.Refusal.{Refusal}
use Rattle.refusals.specs.Answers.{Answer}
use Rattle.monitor.specs.declared.Stepped.{Stepped}
use Rattle.monitor.specs.Stepping.{result_in}
use Rattle.words.specs.Words.{outcome_word}
use Rattle.words.specs.Results.{of_word, of_whole}
use Rattle.lines.specs.Laying.{Lays, lays_none}
use Rattle.lines.specs.Text.{alarm_word, decimal, line}
use Rattle.stream.specs.Lines.{violated_word, refused_line, word_for, word_line, result_line}
use Rattle.stream.specs.Replay.{row_lines}
use Rattle.replaying.specs.Moving.{time_of, reply_lines, said_of}

-- the result that a word has a line for: a raised alarm or a violated property; nothing else is printed
abbrev pub printed : ℕ → Outcome
printed w = cond (eqb w 10) (Outcome.Raised true) (cond (eqb w 12) (Outcome.Property Truth.False) Outcome.Nothing)

-- what is printed of an answer, by the label and the result of each entry
abbrev pub answer_lines : (ℕ → List ℕ) → Answer → ℕ → (ℕ → Outcome) → ℕ → List ℕ
answer_lines label (Ok _) time result n = row_lines label time result n
answer_lines label (Err r) time result n = refused_line r

-- a result and its word have the same line
printed_word : (o : Outcome) → word_for (printed (outcome_word o)) ≡ word_for o
printed_word o =
    of_word (λ w. word_for (printed w)) word_for refl o
    (λ z is. of_whole (λ w. word_for (printed w) ≡ word_for Outcome.Nothing) z refl
    (λ w high. rw (ne_eqb w 10 (λ same. omega arith), ne_eqb w 12 (λ same. omega arith)) refl))

-- and so have the rows
rows_printed : (label : ℕ → List ℕ) (time : ℕ) (result : ℕ → Outcome) (words : List ℕ) (n : ℕ)
    → ((k : ℕ) → k < n → get_or words k 0 ≡ outcome_word (result k))
    → row_lines label time (λ k. printed (get_or words k 0)) n ≡ row_lines label time result n
unfolding row_lines result_line
rows_printed label time result words zero each = refl
rows_printed label time result words (suc n) each =
    ap₂ ◌++◌ (rows_printed label time result words n (λ k h. each k (omega arith)))
    (ap (word_line time n (label n)) (ap (λ (w : ℕ). word_for (printed w)) (each n (omega arith)) ∙ printed_word (result n)))

-- what is printed of a step's answer and words is what is printed of its reply
pub reply_printed : (label : ℕ → List ℕ) (s : Stepped) (words : List ℕ) → ((k : ℕ) → s.answer ≡ Ok tt → k < s.monitor.table.n → get_or words k 0 ≡ outcome_word (result_in s.results k))
    → answer_lines label s.answer (time_of s.monitor) (λ k. printed (get_or words k 0)) s.monitor.table.n ≡ reply_lines label s
unfolding reply_lines
reply_printed label s words each = by s.answer refl
  where
    by : (a : Answer) → s.answer ≡ a → answer_lines label a (time_of s.monitor) (λ k. printed (get_or words k 0)) s.monitor.table.n ≡ said_of label s a
    by (Ok _) is = rows_printed label (time_of s.monitor) (result_in s.results) words s.monitor.table.n (λ k h. each k is h)
    by (Err r) is = refl

module _ {dst after : List ℕ} {at next : ℕ} (time k : ℕ) {label text : List ℕ} {w : ℕ} where
  -- the line of an alarm that is raised
  pub lays_alarm : w ≡ 10 → text ≡ label → Lays dst at (line (decimal time ∷ alarm_word ∷ decimal k ∷ text ∷ [])) after next
      → Lays dst at (result_line time k label (printed w)) after next
  unfolding result_line
  lays_alarm is same lays = rw (eq-eqb w 10 is) (subst (λ (l : List ℕ). Lays dst at (line (decimal time ∷ alarm_word ∷ decimal k ∷ l ∷ [])) after next) same lays)

  -- the line of a property that is violated
  pub lays_violated : w ≡ 12 → text ≡ label → Lays dst at (line (decimal time ∷ violated_word ∷ decimal k ∷ text ∷ [])) after next
      → Lays dst at (result_line time k label (printed w)) after next
  unfolding result_line
  lays_violated is same lays =
      rw (ne_eqb w 10 (λ other. omega arith), eq-eqb w 12 is)
      (subst (λ (l : List ℕ). Lays dst at (line (decimal time ∷ violated_word ∷ decimal k ∷ l ∷ [])) after next) same lays)

-- any other word has no line
pub lays_unprinted : {dst : List ℕ} {at : ℕ} (time k : ℕ) (label : List ℕ) {w : ℕ} → (w ≡ 10 → ⊥) → (w ≡ 12 → ⊥) → Lays dst at (result_line time k label (printed w)) dst at
unfolding result_line
lays_unprinted {dst} {at} time k label {w} raised violated = rw (ne_eqb w 10 raised, ne_eqb w 12 violated) (lays_none dst at)

module _ {dst after : List ℕ} {at next : ℕ} {answer : Answer} (label : ℕ → List ℕ) (result : ℕ → Outcome) (n : ℕ) where
  -- the lines of an accepted step
  pub lays_rows : {time : ℕ} (late : ℕ) → answer ≡ Ok tt → time ≡ late → Lays dst at (row_lines label time result n) after next
      → Lays dst at (answer_lines label answer late result n) after next
  lays_rows late good is lays =
      subst (λ (a : Answer). Lays dst at (answer_lines label a late result n) after next) (sym good)
      (subst (λ (t : ℕ). Lays dst at (row_lines label t result n) after next) is lays)

  -- the line of a refused one
  pub lays_refusal : (time : ℕ) {r : Refusal} → answer ≡ Err r → Lays dst at (refused_line r) after next
      → Lays dst at (answer_lines label answer time result n) after next
  lays_refusal time bad lays = subst (λ (a : Answer). Lays dst at (answer_lines label a time result n) after next) (sym bad) lays
