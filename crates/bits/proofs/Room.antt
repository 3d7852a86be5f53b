-- Whether a field is wholly there, tested by bytes so that no sum can overflow.
use mathlib.Core.Bool.{Bool, true, false, ◌&&◌}
use mathlib.Core.Path.{◌≡◌, sym, ◌∙◌}
use Prim.Native.Nat.{ℕ, ◌+◌, ◌-◌, ◌*◌, ◌/◌, ◌%◌, ◌<◌, ◌≤◌}
use native.Mathlib.Decide.{dec_le}
use native.Mathlib.Omega.{arith}
use borrow.Author.Tests.{le-leb, lt-leb, leb-true}
use lib.Dec.{leb}
use Rattle.replies.specs.Plain.{both_true}
use Rattle.bits.specs.Bits.{widest}

leb_same : (a b c d : ℕ) → (a ≤ b → c ≤ d) → (c ≤ d → a ≤ b) → leb a b ≡ leb c d
leb_same a b c d f g = by (dec_le c d)
  where
    by : Dec (c ≤ d) → leb a b ≡ leb c d
    by (yes h) = le-leb a b (g h) ∙ sym (le-leb c d h)
    by (no h) = lt-leb a b (omega (arith, ne)) ∙ sym (lt-leb c d (omega arith))
      where
        ne : a ≤ b → ⊥
        ne e = h (f e)

module _ (len at w : ℕ) where
  abbrev room : Bool
  room = leb w widest && leb (at + w) (8 * len)

  pub too_wide : 48 < w → false ≡ room
  too_wide h = rw (lt-leb w 48 h)

  module _ (narrow : w ≤ 48) where
    pub too_far : len < at / 8 → false ≡ room
    too_far h = rw (le-leb w 48 narrow, lt-leb (at + w) (8 * len) (omega arith))

    pub far_off : at / 8 ≤ len → 7 ≤ len - at / 8 → true ≡ room
    far_off h k = rw (le-leb w 48 narrow, le-leb (at + w) (8 * len) (omega arith))

    pub by_the_rest : at / 8 ≤ len → leb (at % 8 + w) (8 * (len - at / 8)) ≡ room
    by_the_rest h =
        rw (le-leb w 48 narrow)
        (leb_same (at % 8 + w) (8 * (len - at / 8)) (at + w) (8 * len) (λ k. omega arith) (λ k. omega arith))

  pub has_room : {r : Bool} → r ≡ room → r ≡ true → (w ≤ 48) × (at + w ≤ 8 * len)
  has_room e k =
      let h : (leb w widest ≡ true) × (leb (at + w) (8 * len) ≡ true) = both_true _ _ (sym e ∙ k) in
      (leb-true w 48 h.0, leb-true (at + w) (8 * len) h.1)
