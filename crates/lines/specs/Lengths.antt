-- How long lines can be, by the digits of the numbers in them.
use Rattle.std.specs.Prelude.{[], ◌∷◌, ℕ, suc, ◌+◌, ◌^◌, ◌<◌, ◌≤◌, length}
use Rattle.std.proofs.Common.{arith, length-append}
use Rattle.refusals.specs.declared.Refusal.{Refusal}
use Rattle.refusals.specs.Numbering.{number_of, number_low}
use Rattle.lines.specs.Text.{decimal, script_word, refused_word, script_line, script_refused_line}
use Rattle.lines.specs.Decimals.{decimal_length}
use Rattle.lines.specs.Spaced.{spaced, line_length}

-- a refusal's number has at most two digits
pub number_length : (r : Refusal) → length (decimal (number_of r)) ≤ 2
number_length r = decimal_length 1 (number_of r) (number_low r)

-- the first line of a script: a word, a space, the number and the line feed
pub script_length : (d n : ℕ) → n < 10 ^ suc d → length (script_line n) ≤ 9 + d
unfolding script_line spaced
script_length d n low = let digits = decimal_length d n low in rw (line_length script_word (decimal n ∷ [])) (simp length-append (omega arith))

-- the line of a refused script
pub script_refused_length : (r : Refusal) → length (script_refused_line r) ≤ 18
unfolding script_refused_line spaced
script_refused_length r =
    let digits = number_length r in
    rw (line_length script_word (refused_word ∷ decimal (number_of r) ∷ [])) (simp length-append (omega arith))
