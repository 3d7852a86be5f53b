-- Truths, numbers, results, reports and entries as words of 64 bits.
use Rattle.std.specs.Prelude.{Bool, true, false, cond, ℕ, suc, ◌+◌, ◌-◌, ◌*◌, ℤ, pos, negsuc}
use Rattle.values.specs.declared.Truth.{Truth}
use Rattle.values.specs.declared.Number.{Number}
use Rattle.values.specs.declared.Outcome.{Outcome}
use Rattle.values.specs.Numbers.{in_range}
use Rattle.table.specs.declared.Entry.{Entry}
use Rattle.table.specs.Kinds.{kind_of}
use Rattle.step.specs.declared.Told.{Told}
use Rattle.meaning.specs.declared.Places.{Places}
use Rattle.meaning.specs.Places.{places_of}
use Rattle.kinds.specs.declared.Operand.{Operand}
use Rattle.kinds.specs.Apart.{apart_of}

-- the word of the number 0: 3 times 2^47, so that every whole number of 48 bits has a word from 2^48 up to 2^49
abbrev pub zero_word : ℕ
zero_word = 422212465065984

-- the word of an undefined number
abbrev pub undefined_word : ℕ
undefined_word = 4

-- a whole number, as far from the word of 0 as it is from 0
abbrev pub shifted : ℤ → ℕ
shifted (pos n) = zero_word + n
shifted (negsuc n) = zero_word - suc n

-- "A number is undefined or a whole number from −2^47 to 2^47−1."; what is out of range has no word of its own
abbrev pub number_word : Number → ℕ
number_word Number.Undefined = undefined_word
number_word (Number.Whole z) = cond (in_range z) (shifted z) undefined_word

-- "A condition is true, false or undefined."
abbrev pub truth_word : Truth → ℕ
truth_word Truth.Undefined = 1
truth_word Truth.False = 2
truth_word Truth.True = 3

-- of two words, the one for what is so and the one for what is not
abbrev pub either_word : Bool → ℕ → ℕ → ℕ
either_word true y n = y
either_word false y n = n

-- a property's condition: not known, violated, not violated
abbrev pub property_word : Truth → ℕ
property_word Truth.Undefined = 11
property_word Truth.False = 12
property_word Truth.True = 13

-- the word of each result; no two results in range have the same (`door` Telling)
unfoldable pub outcome_word : Outcome → ℕ
outcome_word Outcome.Nothing = 0
outcome_word (Outcome.Condition c) = truth_word c
outcome_word (Outcome.Event b) = either_word b 6 5
outcome_word (Outcome.Numeric x) = number_word x
outcome_word (Outcome.Done b) = either_word b 8 7
outcome_word (Outcome.Raised b) = either_word b 10 9
outcome_word (Outcome.Property c) = property_word c

-- what a step tells of an import: nothing, a condition's value, or an event's
abbrev pub told_word : Told → ℕ
told_word Told.Nothing = 0
told_word (Told.Condition c) = truth_word c
told_word (Told.Event x) = number_word x

-- "1 an event, 0 a condition"
abbrev pub event_word : Bool → ℕ
event_word b = either_word b 1 0

-- where an entry looks: 7 bits for each of two entries, 5 for a variable, 6 for an import
abbrev pub place_word : Places → ℕ
place_word p = p.first + 128 * p.second + 16384 * p.variable + 524288 * p.imported

-- a constant is its number's word; any other entry is where it looks
abbrev pub operand_word : Operand → Places → ℕ
operand_word (Operand.Constant z) p = number_word (Number.Whole z)
operand_word Operand.Nothing p = place_word p
operand_word (Operand.Entry s a) p = place_word p
operand_word (Operand.Imported s i) p = place_word p
operand_word (Operand.Variable x) p = place_word p

-- an entry: 5 bits of kind, and what follows it
unfoldable pub entry_word : Entry → ℕ
entry_word e = kind_of e + 32 * operand_word (apart_of e).first (places_of e)
