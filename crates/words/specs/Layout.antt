-- Where each part of a monitor stands among its words.
use Rattle.std.specs.Prelude.{cond, List, [], ◌∷◌, ◌≡◌, ℕ, ◌-◌, ltb, length, get_or}
use Rattle.bits.specs.Bits.{list_to}
use Rattle.table.specs.Limits.{limits}
use Rattle.table.specs.Tables.{Shaped, entry_at, is_event, initial_of}
use Rattle.step.specs.Taking.{truth_at}
use Rattle.monitor.specs.declared.Monitor.{Monitor}
use Rattle.monitor.specs.Keeping.{cell_at, held_in}
use Rattle.words.specs.Words.{number_word, truth_word, event_word, entry_word}

-- the arrays of a monitor have their slots; every value of the type has them
pub record Kept (m : Monitor) : Type 0 where
  pub table : Shaped m.table
  pub reported : length m.reported ≡ limits.imports
  pub held : length m.held ≡ limits.variables
  pub cells : length m.cells ≡ limits.slots

-- one part of so many words, and then what follows it
unfoldable pub followed : ℕ → (ℕ → ℕ) → (ℕ → ℕ) → ℕ → ℕ
followed size first later j = cond (ltb j size) (first j) (later (j - size))

-- how many entries, imports and variables there are, and the kept time of the last accepted step
abbrev pub count_word : Monitor → ℕ → ℕ
count_word m j = get_or (m.table.n ∷ m.table.q ∷ m.table.v ∷ m.last ∷ []) j 0

-- the words of a monitor, in order: 4 counts, 128 entries, a word that each of them remembers, 32 held numbers, 32 that the variables
-- start with, 64 import sorts and 64 last reported values, of which the first 48 are used
unfoldable pub word_at : Monitor → ℕ → ℕ
word_at m =
    followed 4 (count_word m)
    (followed 128 (λ k. entry_word (entry_at m.table k))
    (followed 128 (cell_at m)
    (followed 32 (λ x. number_word (held_in m x))
    (followed 32 (λ x. number_word (initial_of m.table x))
    (followed 64 (λ i. event_word (is_event m.table i))
    (λ i. truth_word (truth_at m.reported i)))))))

-- how many words a monitor takes
abbrev pub state_words : ℕ
state_words = 452

-- a monitor as words
unfoldable pub state_of : Monitor → List ℕ
state_of m = list_to state_words (word_at m)
