-- Numbers: undefined, or whole and within 48 bits; sum, difference, less and equal.
use Rattle.std.specs.Prelude.{Bool, true, false, cond, ◌^◌, ltb, eqb, ℤ, pos, negsuc, ◌+ℤ◌, ◌-ℤ◌}
use Rattle.std.specs.Int.Signed.{mag, lt_z}
use Rattle.values.specs.declared.Truth.{Truth}
use Rattle.values.specs.declared.Number.{Number}
use Rattle.values.specs.declared.Number.TheVariants.{Undefined, Whole}
use Rattle.values.specs.Truths.{truth_of}

-- "a whole number from −2^47 to 2^47−1": `mag` is n for n and for −(n + 1)
abbrev pub in_range : ℤ → Bool
in_range z = ltb (mag z) (2 ^ 47)

-- "A number is undefined or a whole number from −2^47 to 2^47−1."
abbrev pub fits_n : Number → Bool
fits_n Undefined = true
fits_n (Whole z) = in_range z

-- "A sum or difference outside the number range is undefined."
abbrev pub ranged : ℤ → Number
ranged z = cond (in_range z) (Whole z) Undefined

-- "Sum ... undefined where an operand is."
abbrev pub sum_n : Number → Number → Number
sum_n Undefined b = Undefined
sum_n (Whole a) Undefined = Undefined
sum_n (Whole a) (Whole b) = ranged (a +ℤ b)

-- "difference N N (first less second)", "undefined where an operand is"
abbrev pub difference_n : Number → Number → Number
difference_n Undefined b = Undefined
difference_n (Whole a) Undefined = Undefined
difference_n (Whole a) (Whole b) = ranged (a -ℤ b)

-- "less ... undefined where an operand is."
abbrev pub less_n : Number → Number → Truth
less_n Undefined b = Truth.Undefined
less_n (Whole a) Undefined = Truth.Undefined
less_n (Whole a) (Whole b) = truth_of (lt_z a b)

-- the same whole number
abbrev pub eq_z : ℤ → ℤ → Bool
eq_z (pos a) (pos b) = eqb a b
eq_z (pos a) (negsuc b) = false
eq_z (negsuc a) (pos b) = false
eq_z (negsuc a) (negsuc b) = eqb a b

-- "equal ... undefined where an operand is."
abbrev pub equal_n : Number → Number → Truth
equal_n Undefined b = Truth.Undefined
equal_n (Whole a) Undefined = Truth.Undefined
equal_n (Whole a) (Whole b) = truth_of (eq_z a b)
