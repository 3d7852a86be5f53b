-- "48 bits, two's complement": a number in range, there and back.
use Rattle.std.specs.Prelude.{true, ◌≡◌, suc, ◌-◌, ◌<◌, ◌^◌, ℤ, pos, negsuc}
use Rattle.std.proofs.Common.{ap, arith, ltb-true, le-ltb}
use Rattle.values.specs.Numbers.{in_range}
use Rattle.bits.specs.Twos.{signed, unsigned}

-- a number in range takes 48 bits
pub unsigned_lt : (z : ℤ) → in_range z ≡ true → unsigned z < 2 ^ 48
unfolding unsigned
unsigned_lt (pos n) h = omega (arith, ltb-true n (2 ^ 47) h)
unsigned_lt (negsuc n) h = omega arith

-- and they stand for it again
pub signed_unsigned : (z : ℤ) → in_range z ≡ true → signed (unsigned z) ≡ z
unfolding signed unsigned
signed_unsigned (pos n) h = rw h
signed_unsigned (negsuc n) h =
    rw (le-ltb (2 ^ 48 - suc n) (2 ^ 47) (omega (arith, ltb-true n (2 ^ 47) h))) (ap negsuc (omega (arith, ltb-true n (2 ^ 47) h)))
