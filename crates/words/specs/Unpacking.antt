-- Back from words: the value that a word stands for, and the monitor that stands in words.
use Rattle.std.specs.Prelude.{Bool, cond, ◌||◌, List, ℕ, ◌+◌, ◌/◌, ◌%◌, ◌^◌, eqb, ℤ, pos, ◌-ℤ◌, length, get_or}
use Rattle.values.specs.declared.Truth.{Truth}
use Rattle.values.specs.declared.Number.{Number}
use Rattle.refusals.specs.declared.Refusal.{Refusal}
use Rattle.refusals.specs.Answers.{Answer}
use Rattle.refusals.specs.Numbering.{unless, and_then, first_fault}
use Rattle.bits.specs.Bits.{list_to}
use Rattle.table.specs.declared.Entry.{Entry}
use Rattle.table.specs.Limits.{limits}
use Rattle.kinds.specs.Apart.{made_of}
use Rattle.monitor.specs.declared.Monitor.{Monitor}
use Rattle.monitor.specs.Keeping.{unsound}
use Rattle.words.specs.Words.{zero_word}
use Rattle.words.specs.Layout.{word_at, state_words}

-- the whole number that is as far from 0 as the word is from the word of 0
abbrev pub whole_of_word : ℕ → ℤ
whole_of_word w = pos w -ℤ pos zero_word

-- the number of a word: whole from 2^48 up to 2^49, and else undefined
abbrev pub number_of_word : ℕ → Number
number_of_word w = cond (eqb (w / 2 ^ 48) 1) (Number.Whole (whole_of_word w)) Number.Undefined

-- the truth of a word; any other word is undefined
abbrev pub truth_of_word : ℕ → Truth
truth_of_word w = cond (eqb w 3) Truth.True (cond (eqb w 2) Truth.False Truth.Undefined)

-- the whole number in a constant's word, 0 where it holds none
abbrev pub constant_of_word : ℕ → ℤ
constant_of_word w = cond (eqb (w / 2 ^ 48) 1) (whole_of_word w) (pos 0)

-- kinds 0, 9 and 20 have an import for an operand
abbrev pub of_import : ℕ → Bool
of_import kind = eqb kind 0 || (eqb kind 9 || eqb kind 20)

-- the number of an entry's first operand: an import, a variable or an entry
unfoldable pub first_of_word : ℕ → ℕ
first_of_word w = cond (of_import (w % 32)) (w / 16777216 % 64) (cond (eqb (w % 32) 16) (w / 524288 % 32) (w / 32 % 128))

-- the number of the second: an update has a variable there
unfoldable pub second_of_word : ℕ → ℕ
second_of_word w = cond (eqb (w % 32) 22) (w / 524288 % 32) (w / 4096 % 128)

-- the entry of a word: its kind, and the numbers of its operands
unfoldable pub entry_of_word : ℕ → Entry
entry_of_word w = made_of (w % 32) (first_of_word w) (second_of_word w) (w / 4096 % 128) (constant_of_word (w / 32))

-- the word at a place; past the end it is 0
abbrev pub word_in : List ℕ → ℕ → ℕ
word_in words j = get_or words j 0

-- the slots of 32 variables from a place on
unfoldable pub numbers_in : List ℕ → ℕ → List Number
numbers_in words from = list_to limits.variables (λ x. (number_of_word (word_in words (from + x))))

-- the 128 entry slots
unfoldable pub entries_in : List ℕ → List Entry
entries_in words = list_to limits.slots (λ k. (entry_of_word (word_in words (4 + k))))

-- what each of the 128 entries remembers
unfoldable pub cells_in : List ℕ → List ℕ
cells_in words = list_to limits.slots (λ k. word_in words (132 + k))

-- the sorts of the 48 imports
unfoldable pub events_in : List ℕ → List Bool
events_in words = list_to limits.imports (λ i. eqb (word_in words (324 + i)) 1)

-- the last reported value of each
unfoldable pub reported_in : List ℕ → List Truth
reported_in words = list_to limits.imports (λ i. (truth_of_word (word_in words (388 + i))))

-- the monitor that stands in words, whatever they are
unfoldable pub monitor_in : List ℕ → Monitor
monitor_in words =
    record {
      table =
          record {
            n = word_in words 0;
            q = word_in words 1;
            v = word_in words 2;
            events = events_in words;
            variables = numbers_in words 292;
            entries = entries_in words;
          };
      last = word_in words 3;
      reported = reported_in words;
      held = numbers_in words 260;
      cells = cells_in words;
    }

-- a word that is not the one of that monitor at that place
abbrev pub word_fault : List ℕ → ℕ → Answer
word_fault words j = unless (eqb (word_in words j) (word_at (monitor_in words) j)) Refusal.Unsound

-- 29 where the words are not 452, are not those of a monitor, or are those of one that is at fault
unfoldable pub state_fault : List ℕ → Answer
state_fault words =
    and_then (unless (eqb (length words) state_words) Refusal.Unsound)
    (and_then (first_fault state_words (word_fault words))
    (unsound (monitor_in words)))
