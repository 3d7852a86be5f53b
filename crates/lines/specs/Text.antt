-- Lines of text in ASCII. "Fields are parted by one space"; every line ends in a line feed.
use Rattle.std.specs.Prelude.{true, false, List, [], ◌∷◌, ◌++◌, ℕ, zero, suc, ◌+◌, ◌/◌, ◌%◌, ltb}
use Rattle.refusals.specs.declared.Refusal.{Refusal}
use Rattle.refusals.specs.Numbering.{number_of}

-- a number in decimal digits, at most so many; an `elim` computes only the case that it takes, so that large numbers can be run
unfoldable pub digits_to : ℕ → ℕ → List ℕ
digits_to zero n = []
digits_to (suc most) n = elim (ltb n 10) [ true ↦ (48 + n) ∷ [] | false ↦ digits_to most (n / 10) ++ ((48 + n % 10) ∷ []) ]

-- a number in decimal digits, with no leading zero
unfoldable pub decimal : ℕ → List ℕ
decimal n = digits_to (suc n) n

-- "script"
abbrev pub script_word : List ℕ
script_word = 115 ∷ 99 ∷ 114 ∷ 105 ∷ 112 ∷ 116 ∷ []

-- "refused"
abbrev pub refused_word : List ℕ
refused_word = 114 ∷ 101 ∷ 102 ∷ 117 ∷ 115 ∷ 101 ∷ 100 ∷ []

-- "alarm"
abbrev pub alarm_word : List ℕ
alarm_word = 97 ∷ 108 ∷ 97 ∷ 114 ∷ 109 ∷ []

-- fields parted by one space, and a line feed
unfoldable pub line : List (List ℕ) → List ℕ
line [] = 10 ∷ []
line (f ∷ []) = f ++ (10 ∷ [])
line (f ∷ g ∷ fs) = f ++ (32 ∷ line (g ∷ fs))

-- "The first line gives n."
unfoldable pub script_line : ℕ → List ℕ
script_line n = line (script_word ∷ decimal n ∷ [])

-- "a refused script prints `script refused` and its number"
unfoldable pub script_refused_line : Refusal → List ℕ
script_refused_line r = line (script_word ∷ refused_word ∷ decimal (number_of r) ∷ [])

-- names all that lines are computed with: an example says `unfolding the_text`
unfoldable pub the_text : Unit {0}
unfolding digits_to decimal line script_line script_refused_line
the_text = tt
