-- Parts of bytes, each with its length before it, and the numbers in them.
use Rattle.std.specs.Prelude.{cond, leb, ℕ, List, [], ◌+◌, ◌*◌, length, take, drop, get_or}
use Prim.Native.Nat.{zero, suc}

-- the number in the first n bytes, the most significant first; a byte past the end is 0
unfoldable pub number_of : ℕ → List ℕ → ℕ
number_of zero s = 0
number_of (suc n) s = number_of n s * 256 + get_or s n 0

-- where the first part ends: two bytes of length come before it
abbrev pub end_of_part : List ℕ → ℕ
end_of_part s = 2 + number_of 2 s

-- the first part; none where it is not all there
abbrev pub part_of : List ℕ → List ℕ
part_of s = cond (leb (end_of_part s) (length s)) (drop 2 (take (end_of_part s) s)) []

-- what follows the first part
abbrev pub rest_of : List ℕ → List ℕ
rest_of s = drop (end_of_part s) s
