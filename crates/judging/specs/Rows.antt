-- The two tables over words: what an entry says, and what it remembers, by the number of its kind.
use Rattle.std.specs.Prelude.{List, [], ◌∷◌, ◌≡◌, ℕ, ◌/◌, ◌%◌, ◌≤◌, get_or}
use Rattle.std.proofs.Common.{sym}
use Rattle.std.proofs.Math.ListN.{get_or-eq_default}
use Rattle.judging.specs.Leaves.{defined_word, pair_word, pair_cell, not_word, or_word, and_word, implies_word, less_word, equal_word, occurs_word, start_word, start_cell, end_word, end_cell, both_word, either_of, when_word, sum_word, difference_word, value_word, time_word, time_cell, done_word, raised_word, property_of}

-- the result of each kind, in order: w is the entry's word, x and y the words at its operand entries, then come what the step tells of its import, the import's last
-- reported value, the number that its variable holds, this step's time as a number, the kept form of it, and what the entry remembers
abbrev pub results : ℕ → ℕ → ℕ → ℕ → ℕ → ℕ → ℕ → ℕ → ℕ → List ℕ
results w x y told reported held clock now cell =
    reported
    ∷ defined_word x
    ∷ pair_word x y cell
    ∷ not_word x
    ∷ or_word x y
    ∷ and_word x y
    ∷ implies_word x y
    ∷ less_word x y
    ∷ equal_word x y
    ∷ occurs_word told
    ∷ start_word x cell
    ∷ end_word x cell
    ∷ both_word x y
    ∷ either_of x y
    ∷ when_word x y
    ∷ (w / 32)
    ∷ held
    ∷ sum_word x y
    ∷ difference_word x y
    ∷ clock
    ∷ value_word told
    ∷ time_word x now cell
    ∷ done_word x
    ∷ raised_word x
    ∷ property_of x
    ∷ []

-- what each kind remembers: a pair, a start, an end and a time of an event; the others keep the cell as it was
abbrev pub cells : ℕ → ℕ → ℕ → ℕ → List ℕ
cells x y now cell =
    cell
    ∷ cell
    ∷ pair_cell x y cell
    ∷ cell
    ∷ cell
    ∷ cell
    ∷ cell
    ∷ cell
    ∷ cell
    ∷ cell
    ∷ start_cell x
    ∷ end_cell x
    ∷ cell
    ∷ cell
    ∷ cell
    ∷ cell
    ∷ cell
    ∷ cell
    ∷ cell
    ∷ cell
    ∷ cell
    ∷ time_cell x now cell
    ∷ cell
    ∷ cell
    ∷ cell
    ∷ []

-- the word of an entry's result; from 25 on there is no kind, and no result
unfoldable pub result_word : ℕ → ℕ → ℕ → ℕ → ℕ → ℕ → ℕ → ℕ → ℕ → ℕ
result_word w x y told reported held clock now cell = get_or (results w x y told reported held clock now cell) (w % 32) 0

-- what an entry remembers for the next step
unfoldable pub cell_word : ℕ → ℕ → ℕ → ℕ → ℕ → ℕ → ℕ → ℕ → ℕ → ℕ
cell_word w x y told reported held clock now cell = get_or (cells x y now cell) (w % 32) cell

-- from 25 on there is no kind
pub past_rows : (w x y told reported held clock now cell : ℕ) → 25 ≤ w % 32
    → (0 ≡ result_word w x y told reported held clock now cell) × (cell ≡ cell_word w x y told reported held clock now cell)
unfolding result_word cell_word
past_rows w x y told reported held clock now cell past =
    (sym (get_or-eq_default (results w x y told reported held clock now cell) 0 past), sym (get_or-eq_default (cells x y now cell) cell past))
