-- 48 bits and 64: what `signed` and `unsigned` compute, said of what the machine reads back.
use mathlib.Core.Path.{◌≡◌, refl, sym, ap, ◌∙◌}
use mathlib.Core.Bool.{Bool, true, false, cond, false≢true}
use Prim.Native.Nat.{ℕ, suc, ◌-◌, ◌<◌, ◌≤◌, ◌^◌}
use native.Mathlib.Omega.{arith}
use lib.Dec.{T}
use lib.IntN.{ℤ, pos, negsuc, nat_abs, ◌+ℤ◌, ◌-ℤ◌}
use lib.Signed.{le_z, non_neg}
use mir.Syntax.{w64}
use mir.Val.{Fits, SFits, to_z, of_z}
use mir.ValLaws.{to_z-of_z, to_z_pos}
use borrow.Author.Tests.{lt-ltb, le-ltb, leb-true, leb-false}
use Rattle.bits.specs.Twos.{signed, unsigned}

-- ---- 48 bits read as a whole number

pub signed_low : (v : ℕ) → v < 2 ^ 47 → to_z w64 v ≡ signed v
unfolding signed
signed_low v h = to_z_pos w64 v (omega arith) ∙ sym (ap (λ (t : Bool). cond t (pos v) (negsuc (2 ^ 48 - suc v))) (lt-ltb v (2 ^ 47) h))

signed_high : (v : ℕ) → 2 ^ 47 ≤ v → negsuc (2 ^ 48 - suc v) ≡ signed v
unfolding signed
signed_high v h = sym (ap (λ (t : Bool). cond t (pos v) (negsuc (2 ^ 48 - suc v))) (le-ltb v (2 ^ 47) h))

module _ (v : ℕ) (high : 2 ^ 47 ≤ v) where
  pub signed_beyond : 2 ^ 48 ≤ v → negsuc 0 ≡ signed v
  signed_beyond h = ap negsuc (omega arith) ∙ signed_high v high

  module _ (h : v < 2 ^ 48) where
    lowered : to_z w64 v -ℤ pos 281474976710656 ≡ negsuc (2 ^ 48 - suc v)
    lowered = rw (to_z_pos w64 v (omega arith)) (ap (λ (t : Bool). cond t (negsuc (2 ^ 48 - suc v)) (pos (v - 2 ^ 48))) (lt-ltb v (2 ^ 48) h))

    pub lowered_fits : SFits w64 (to_z w64 v -ℤ pos 281474976710656)
    lowered_fits = rw lowered (record { sfits = omega arith })

    pub lowered_is : to_z w64 (of_z w64 (to_z w64 v -ℤ pos 281474976710656)) ≡ signed v
    lowered_is = to_z-of_z w64 _ lowered_fits ∙ lowered ∙ signed_high v high

-- ---- a whole number as 48 bits

-- a signed number that is passed or stored is read back from its bits
abbrev read : ℤ → ℤ
read z = to_z w64 (of_z w64 z)

at_least_0 : (n : ℕ) → le_z (pos 0) (pos n) ≡ false → ⊥
at_least_0 n e = omega (arith, leb-false 0 n e)

not_negative : (z : ℤ) → SFits w64 z → le_z (pos 0) z ≡ true → T (non_neg z) × Fits w64 (nat_abs z)
not_negative (pos n) f e = (tt, record { fits = omega (arith, f.sfits) })
not_negative (negsuc n) f e = absurd (false≢true e)

itself : (z : ℤ) → le_z (pos 0) z ≡ true → nat_abs z ≡ unsigned z
unfolding unsigned
itself (pos n) e = refl
itself (negsuc n) e = absurd (false≢true e)

raised : (z : ℤ) → le_z (pos 0) z ≡ false → le_z (negsuc 281474976710655) z ≡ true → z +ℤ pos 281474976710656 ≡ pos (unsigned z)
unfolding unsigned
raised (pos n) e k = absurd (at_least_0 n e)
raised (negsuc n) e k =
    ap (λ (t : Bool). cond t (negsuc (suc n - suc 281474976710656)) (pos (2 ^ 48 - suc n))) (le-ltb (2 ^ 48) (suc n) (omega (arith, leb-true n 281474976710655 k)))

nothing_left : (z : ℤ) → le_z (pos 0) z ≡ false → le_z (negsuc 281474976710655) z ≡ false → 0 ≡ unsigned z
unfolding unsigned
nothing_left (pos n) e k = absurd (at_least_0 n e)
nothing_left (negsuc n) e k = omega (arith, leb-false n 281474976710655 k)

unsigned_lt : (z : ℤ) → le_z (pos 0) z ≡ false → unsigned z < 2 ^ 48
unfolding unsigned
unsigned_lt (pos n) e = absurd (at_least_0 n e)
unsigned_lt (negsuc n) e = omega arith

module _ {z : ℤ} (f : SFits w64 z) where
  plain : read z ≡ z
  plain = to_z-of_z w64 z f

  pub unsigned_cast : le_z (pos 0) (read z) ≡ true → T (non_neg (read z)) × Fits w64 (nat_abs (read z))
  unsigned_cast e = rw plain (not_negative z f (rw plain at e))

  pub unsigned_self : le_z (pos 0) (read z) ≡ true → nat_abs (read z) ≡ unsigned z
  unsigned_self e = rw plain (itself z (rw plain at e))

  pub unsigned_below : le_z (pos 0) (read z) ≡ false → le_z (negsuc 281474976710655) (read z) ≡ false → 0 ≡ unsigned z
  unsigned_below e k = nothing_left z (rw plain at e) (rw plain at k)

  module _ (e : le_z (pos 0) (read z) ≡ false) (k : le_z (negsuc 281474976710655) (read z) ≡ true) where
    sum : read z +ℤ pos 281474976710656 ≡ pos (unsigned z)
    sum = rw plain (raised z (rw plain at e) (rw plain at k))

    small : unsigned z < 2 ^ 48
    small = unsigned_lt z (rw plain at e)

    pub raised_fits : SFits w64 (read z +ℤ pos 281474976710656)
    raised_fits = rw sum (record { sfits = omega (arith, small) })

    again : read (read z +ℤ pos 281474976710656) ≡ pos (unsigned z)
    again = to_z-of_z w64 _ raised_fits ∙ sum

    pub raised_cast : T (non_neg (read (read z +ℤ pos 281474976710656))) × Fits w64 (nat_abs (read (read z +ℤ pos 281474976710656)))
    raised_cast = rw again (tt, record { fits = omega (arith, small) })

    pub raised_is : nat_abs (read (read z +ℤ pos 281474976710656)) ≡ unsigned z
    raised_is = ap nat_abs again
