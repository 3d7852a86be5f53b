-- The lines that the program prints. "Fields are parted by one space"; every line ends in a line feed.
use Rattle.std.specs.Prelude.{true, false, List, [], ◌∷◌, ℕ}
use Rattle.values.specs.declared.Truth.{Truth}
use Rattle.values.specs.declared.Outcome.{Outcome}
use Rattle.refusals.specs.declared.Refusal.{Refusal}
use Rattle.refusals.specs.Numbering.{number_of}
use Rattle.lines.specs.Text.{decimal, line, refused_word, alarm_word, the_text}

-- the words, in ASCII
-- "violated"
abbrev pub violated_word : List ℕ
violated_word = 118 ∷ 105 ∷ 111 ∷ 108 ∷ 97 ∷ 116 ∷ 101 ∷ 100 ∷ []

-- "cut"
abbrev pub cut_word : List ℕ
cut_word = 99 ∷ 117 ∷ 116 ∷ []

-- "steps"
abbrev pub steps_word : List ℕ
steps_word = 115 ∷ 116 ∷ 101 ∷ 112 ∷ 115 ∷ []

-- "A refused step prints `refused` and its number"
unfoldable pub refused_line : Refusal → List ℕ
refused_line r = line (refused_word ∷ decimal (number_of r) ∷ [])

-- "prints `cut`"
unfoldable pub cut_line : List ℕ
cut_line = line (cut_word ∷ [])

-- "The last counts accepted and refused steps."
unfoldable pub last_line : ℕ → ℕ → List ℕ
last_line accepted refused = line (steps_word ∷ decimal accepted ∷ refused_word ∷ decimal refused ∷ [])

-- the word for a result that is printed: a raised alarm, a violated property
abbrev pub word_for : Outcome → List ℕ
word_for Outcome.Nothing = []
word_for (Outcome.Condition c) = []
word_for (Outcome.Event b) = []
word_for (Outcome.Numeric x) = []
word_for (Outcome.Done b) = []
word_for (Outcome.Raised true) = alarm_word
word_for (Outcome.Raised false) = []
word_for (Outcome.Property Truth.Undefined) = []
word_for (Outcome.Property Truth.False) = violated_word
word_for (Outcome.Property Truth.True) = []

-- "Then time, `alarm` or `violated`, entry number, label"; a result with no word has no line
abbrev pub word_line : ℕ → ℕ → List ℕ → List ℕ → List ℕ
word_line time k label [] = []
word_line time k label (c ∷ cs) = line (decimal time ∷ (c ∷ cs) ∷ decimal k ∷ label ∷ [])

-- the line of a result, if it has one
unfoldable pub result_line : ℕ → ℕ → List ℕ → Outcome → List ℕ
result_line time k label o = word_line time k label (word_for o)

-- names all that lines are computed with: an example says `unfolding the_lines`
unfoldable pub the_lines : Unit {0}
unfolding the_text refused_line cut_line last_line result_line
the_lines = tt
