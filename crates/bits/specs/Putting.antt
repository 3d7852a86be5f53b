-- A field put into bytes that are there already: its bits change, and no others.
use Rattle.std.specs.Prelude.{◌&&◌, cond, List, [], ◌∷◌, ℕ, suc, ◌+◌, ◌-◌, ◌/◌, ◌%◌, ◌^◌, leb, ltb, length}
use Rattle.bits.specs.Bits.{Part, bit_at, wholly, widest, bytes_from}

-- bit j once the number v stands in the `w` bits from bit `at` on: one of its bits, most significant first, or the bit as it was
unfoldable pub bit_put : List ℕ → ℕ → ℕ → ℕ → ℕ → ℕ
bit_put s at w v j = cond (leb at j && ltb j (at + w)) (v / 2 ^ (at + w - suc j) % 2) (bit_at s j)

-- a field put in its place; one that would end past the bytes, or is wider than the widest, is not put at all
unfoldable pub put_at : List ℕ → ℕ → ℕ → ℕ → List ℕ
put_at s at w v = cond (leb w widest && wholly s at w) (bytes_from (length s) (bit_put s at w v)) s

-- "Fields are packed without gaps": one after another, from bit `at` on
unfoldable pub put_all : List ℕ → ℕ → List Part → List ℕ
put_all s at [] = s
put_all s at (p ∷ ps) = put_all (put_at s at p.wide p.is) (at + p.wide) ps

-- names all that putting is computed with
unfoldable pub the_putting : Unit {0}
unfolding bit_put put_at put_all
the_putting = tt
