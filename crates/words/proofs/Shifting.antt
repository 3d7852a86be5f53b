-- Whole numbers of 64 bits as words: what `whole_word` computes, said of what the machine reads back.
use mathlib.Core.Bool.{Bool, true, false, cond, false≢true}
use mathlib.Core.Path.{◌≡◌, refl, sym, ap, ◌∙◌}
use Prim.Native.Nat.{suc, ◌-◌, ◌<◌, ◌^◌}
use native.Mathlib.Omega.{arith}
use lib.Dec.{T}
use lib.IntN.{ℤ, pos, negsuc, nat_abs, ◌+ℤ◌}
use lib.Signed.{mag, lt_z, non_neg}
use mir.Syntax.{w64}
use mir.Val.{Fits, SFits, to_z, of_z}
use mir.ValLaws.{to_z-of_z}
use borrow.Author.Tests.{ltb-true, ltb-false, lt-ltb, le-ltb}
use Rattle.values.specs.declared.Number.{Number}
use Rattle.values.specs.Numbers.{in_range}
use Rattle.words.specs.Words.{zero_word, undefined_word, shifted, number_word}
use Rattle.words.specs.Encoding.{shifted_small}

-- a signed number that is passed or stored is read back from its bits
abbrev pub read : ℤ → ℤ
read z = to_z w64 (of_z w64 z)

-- a number below the range
too_low : (z : ℤ) → lt_z z (negsuc 140737488355327) ≡ true → in_range z ≡ false
too_low (pos n) e = absurd (false≢true e)
too_low (negsuc n) e = le-ltb n (2 ^ 47) (ltb-true 140737488355327 n e)

-- one above it, or in it
high_enough : (z : ℤ) → lt_z z (negsuc 140737488355327) ≡ false → lt_z z (pos 140737488355328) ≡ in_range z
high_enough (pos n) e = refl
high_enough (negsuc n) e = sym (lt-ltb n (2 ^ 47) (omega (arith, ltb-false 140737488355327 n e)))

-- the word by whether the number is in range
word_if : (z : ℤ) {t : Bool} → in_range z ≡ t → cond t (shifted z) undefined_word ≡ number_word (Number.Whole z)
word_if z is = sym (ap (λ (t : Bool). cond t (shifted z) undefined_word) is)

-- the word of 0 is added
raised : (z : ℤ) → in_range z ≡ true → z +ℤ pos 422212465065984 ≡ pos (shifted z)
raised (pos n) is = ap pos (omega arith)
raised (negsuc n) is =
    ap (λ (t : Bool). cond t (negsuc (suc n - suc zero_word)) (pos (zero_word - suc n)))
    (le-ltb zero_word (suc n) (omega (arith, ltb-true n (2 ^ 47) is)))

module _ {z : ℤ} (f : SFits w64 z) where
  plain : read z ≡ z
  plain = to_z-of_z w64 z f

  pub below_word : lt_z (read z) (negsuc 140737488355327) ≡ true → undefined_word ≡ number_word (Number.Whole z)
  below_word e = word_if z (too_low z (rw plain at e))

  module _ (e : lt_z (read z) (negsuc 140737488355327) ≡ false) where
    pub above_word : lt_z (read z) (pos 140737488355328) ≡ false → undefined_word ≡ number_word (Number.Whole z)
    above_word k = word_if z (sym (high_enough z (rw plain at e)) ∙ (rw plain at k))

    module _ (k : lt_z (read z) (pos 140737488355328) ≡ true) where
      inside : in_range z ≡ true
      inside = sym (high_enough z (rw plain at e)) ∙ (rw plain at k)

      sum : read z +ℤ pos 422212465065984 ≡ pos (shifted z)
      sum = rw plain (raised z inside)

      pub raised_fits : SFits w64 (read z +ℤ pos 422212465065984)
      raised_fits = rw sum (record { sfits = omega (arith, shifted_small z inside) })

      again : read (read z +ℤ pos 422212465065984) ≡ pos (shifted z)
      again = to_z-of_z w64 _ raised_fits ∙ sum

      pub raised_cast : T (non_neg (read (read z +ℤ pos 422212465065984))) × Fits w64 (nat_abs (read (read z +ℤ pos 422212465065984)))
      raised_cast = rw again (tt, record { fits = omega (arith, shifted_small z inside) })

      pub raised_word_lem : nat_abs (read (read z +ℤ pos 422212465065984)) ≡ number_word (Number.Whole z)
      raised_word_lem = ap nat_abs again ∙ word_if z inside

-- what a match tells of a whole number that it binds, read back from its bits
pub on_whole : {A : Type 0} (f : ℤ → A) {x : A} (a : (v : ℤ × Unit {0}) × (x ≡ f v.0)) → mag a.0.0 < 2 ^ 63
    → f (read a.0.0) ≡ x
on_whole f a h = ap f (to_z-of_z w64 a.0.0 (record { sfits = h })) ∙ sym a.1
