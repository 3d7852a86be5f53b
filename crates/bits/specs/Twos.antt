-- "48 bits, two's complement": a whole number as 48 bits, and back.
use Rattle.std.specs.Prelude.{cond, ℕ, suc, ◌-◌, ◌^◌, ltb, ℤ, pos, negsuc}

-- the whole number that 48 bits stand for
unfoldable pub signed : ℕ → ℤ
signed v = cond (ltb v (2 ^ 47)) (pos v) (negsuc (2 ^ 48 - suc v))

-- the 48 bits that stand for a whole number from −2^47 to 2^47−1
unfoldable pub unsigned : ℤ → ℕ
unsigned (pos n) = n
unsigned (negsuc n) = 2 ^ 48 - suc n

-- names all that two's complement is computed with
unfoldable pub the_twos : Unit {0}
unfolding signed unsigned
the_twos = tt
