-- What is heard of a step: the refusal, or its time and a word for what it tells of each import.
use Rattle.std.specs.Prelude.{List, ◌≡◌, ℕ, Result, Ok, Err}
use Rattle.refusals.specs.declared.Refusal.{Refusal}
use Rattle.refusals.specs.Answers.{Answer}
use Rattle.bits.specs.Bits.{list_to}
use Rattle.table.specs.declared.Table.{Table}
use Rattle.table.specs.Tables.{is_event}
use Rattle.step.specs.declared.Told.{Told}
use Rattle.values.specs.declared.Truth.{Truth}
use Rattle.step.specs.Reader.{read_step}
use Rattle.step.specs.Taking.{told_at, taken_of}
use Rattle.words.specs.Words.{event_word, told_word}

-- which imports are events, as words
abbrev pub event_words : Table → List ℕ
event_words t = list_to 64 (λ i. event_word (is_event t i))

-- what a step tells of each import, as words
abbrev pub told_words : List Told → List ℕ
told_words slots = list_to 64 (λ i. told_word (told_at slots i))

-- whether a step that was heard is accepted
abbrev pub answer_of : Result ℕ Refusal → Answer
answer_of (Ok time) = Ok tt
answer_of (Err r) = Err r

-- what was heard is what the step says, whatever was reported before it
pub record Heard (t : Table) (earliest : ℕ) (bytes : List ℕ) (r : Result ℕ Refusal) (words : List ℕ) : Type 0 where
  pub answer : (before : List Truth) → answer_of r ≡ (taken_of before (read_step t earliest bytes 0)).answer
  pub time : (before : List Truth) (time : ℕ) → r ≡ Ok time → time ≡ (taken_of before (read_step t earliest bytes 0)).time
  pub told : (before : List Truth) (time : ℕ) → r ≡ Ok time → words ≡ told_words (taken_of before (read_step t earliest bytes 0)).told
