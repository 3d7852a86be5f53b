-- Where a sum of two whole numbers of 64 bits can be taken, and why it is outside the number range elsewhere.
use Rattle.std.specs.Prelude.{Bool, true, false, not, ◌&&◌, ◌||◌, ℤ, pos, negsuc}
use Rattle.std.specs.Bool.{beq}
use Rattle.values.specs.Numbers.{in_range}

-- below 0
abbrev pub negative : ℤ → Bool
negative (pos n) = false
negative (negsuc n) = true

-- one is negative and the other is not, or both are in range
abbrev pub addable : ℤ → ℤ → Bool
addable a b = not (beq (negative a) (negative b)) || in_range a && in_range b
