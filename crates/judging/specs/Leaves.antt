-- What each kind gives, over words: a condition is 1 undefined, 2 false, 3 true; an event 5 or 6; a number is a word from 2^48 up to 2^49, or 4.
use Rattle.std.specs.Prelude.{Bool, cond, not, ◌&&◌, ◌||◌, ℕ, ◌+◌, ◌-◌, ◌/◌, ◌^◌, leb, ltb, eqb}
use Rattle.memory.specs.Memory.{marked, mark, open_now, latest_now}
use Rattle.words.specs.Words.{zero_word, undefined_word}

-- whether a word is a whole number's: those are the words from 2^48 up to 2^49
abbrev pub whole : ℕ → Bool
whole x = eqb (x / 2 ^ 48) 1

-- of two whole numbers
abbrev pub wholes : ℕ → ℕ → Bool
wholes x y = whole x && whole y

-- the word of a condition: true, false, or neither
abbrev pub truth_by : Bool → Bool → ℕ
truth_by holds fails = cond holds 3 (cond fails 2 1)

-- "defined": true unless the condition is undefined
abbrev pub defined_word : ℕ → ℕ
defined_word x = cond (eqb x 2 || eqb x 3) 3 2

-- a pair that was left open, or is opened now, and is not closed now
abbrev pub open_in : ℕ → ℕ → ℕ → Bool
open_in x y cell = open_now (marked cell) (eqb x 6) (eqb y 6)

-- "The pair is true at step i if ...; else false."
abbrev pub pair_word : ℕ → ℕ → ℕ → ℕ
pair_word x y cell = cond (open_in x y cell) 3 2

-- and it remembers that it is open
abbrev pub pair_cell : ℕ → ℕ → ℕ → ℕ
pair_cell x y cell = mark (open_in x y cell)

-- "Not": true if the condition is false, false if it is true
abbrev pub not_word : ℕ → ℕ
not_word x = truth_by (eqb x 2) (eqb x 3)

-- "or": true if one is true, false if both are false
abbrev pub or_word : ℕ → ℕ → ℕ
or_word x y = truth_by (eqb x 3 || eqb y 3) (eqb x 2 && eqb y 2)

-- "a and b": true if both are true, false if one is false
abbrev pub and_word : ℕ → ℕ → ℕ
and_word x y = truth_by (eqb x 3 && eqb y 3) (eqb x 2 || eqb y 2)

-- "a implies b": true if a is false or b is true, false if a is true and b is false
abbrev pub implies_word : ℕ → ℕ → ℕ
implies_word x y = truth_by (eqb x 2 || eqb y 3) (eqb x 3 && eqb y 2)

-- "less ... undefined where an operand is": of two whole numbers' words the lower is the lesser number's
abbrev pub less_word : ℕ → ℕ → ℕ
less_word x y = truth_by (wholes x y && ltb x y) (wholes x y && not (ltb x y))

-- "equal ... undefined where an operand is."
abbrev pub equal_word : ℕ → ℕ → ℕ
equal_word x y = truth_by (wholes x y && eqb x y) (wholes x y && not (eqb x y))

-- "An imported event occurs in the steps that report it."
abbrev pub occurs_word : ℕ → ℕ
occurs_word told = cond (leb 4 told) 6 5

-- "Start occurs where the condition is true and was not true one step before."
abbrev pub start_word : ℕ → ℕ → ℕ
start_word x cell = cond (eqb x 3 && not (marked cell)) 6 5

-- and it remembers that its condition stood
abbrev pub start_cell : ℕ → ℕ
start_cell x = mark (eqb x 3)

-- "End occurs where it is false and was not false one step before."
abbrev pub end_word : ℕ → ℕ → ℕ
end_word x cell = cond (eqb x 2 && not (marked cell)) 6 5

-- and it remembers that its condition failed
abbrev pub end_cell : ℕ → ℕ
end_cell x = mark (eqb x 2)

-- "Both, either and when are plain"
abbrev pub both_word : ℕ → ℕ → ℕ
both_word x y = cond (eqb x 6 && eqb y 6) 6 5

-- one of two events
abbrev pub either_of : ℕ → ℕ → ℕ
either_of x y = cond (eqb x 6 || eqb y 6) 6 5

-- "when needs its condition to be true"
abbrev pub when_word : ℕ → ℕ → ℕ
when_word x y = cond (eqb x 6 && eqb y 3) 6 5

-- "A sum or difference outside the number range is undefined."
abbrev pub ranged_word : ℕ → ℕ
ranged_word r = cond (whole r) r undefined_word

-- "Sum ... undefined where an operand is."
abbrev pub sum_word : ℕ → ℕ → ℕ
sum_word x y = cond (wholes x y) (ranged_word (x + y - zero_word)) undefined_word

-- "difference N N (first less second)", "undefined where an operand is"
abbrev pub difference_word : ℕ → ℕ → ℕ
difference_word x y = cond (wholes x y) (ranged_word (x + zero_word - y)) undefined_word

-- "Value is the value reported in this step, else undefined."
abbrev pub value_word : ℕ → ℕ
value_word told = cond (leb 4 told) told undefined_word

-- the time that is kept: one less than the word in the cell; what is out of range is no time
abbrev pub kept_word : ℕ → ℕ
kept_word c = cond (eqb c 0 || ltb (2 ^ 47) c) undefined_word (c - 1 + zero_word)

-- what a time of an event remembers: now, or as it was kept
abbrev pub time_cell : ℕ → ℕ → ℕ → ℕ
time_cell x now cell = latest_now (eqb x 6) now cell

-- "Time of E is the time of its latest occurrence, this step included; undefined before any."
abbrev pub time_word : ℕ → ℕ → ℕ → ℕ
time_word x now cell = kept_word (time_cell x now cell)

-- "An update has the result of its event: done or not done."
abbrev pub done_word : ℕ → ℕ
done_word x = cond (eqb x 6) 8 7

-- "An alarm is raised where its event occurs."
abbrev pub raised_word : ℕ → ℕ
raised_word x = cond (eqb x 6) 10 9

-- "A property is violated where its condition is false; undefined is reported as not known."
abbrev pub property_of : ℕ → ℕ
property_of x = cond (eqb x 3) 13 (cond (eqb x 2) 12 11)
