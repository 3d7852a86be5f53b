-- Laws of the number that bits make: its bound, its parts, and which bits it depends on.
use Rattle.std.specs.Prelude.{List, ◌≡◌, refl, ℕ, zero, suc, ◌+◌, ◌-◌, ◌*◌, ◌/◌, ◌%◌, ◌^◌, ◌<◌, ◌≤◌}
use Rattle.std.proofs.Common.{sym, ◌∙◌, ap, pow-suc, mul_assoc, add_assoc, mod-lt, add-suc, add-zero, add-one, arith, shr-shr}
use Rattle.std.proofs.Math.Pow.{high, low}
use Rattle.std.proofs.lemmas.Nat.{mod-pow-add}
use Rattle.bits.specs.Bits.{number_from, bit_at}

-- every bit is 0 or 1
abbrev pub Bitwise : (ℕ → ℕ) → Type 0
Bitwise bit = (i : ℕ) → bit i < 2

-- the bits of bytes are
pub bit_lt : (s : List ℕ) → Bitwise (bit_at s)
unfolding bit_at
bit_lt s i = mod-lt _ (omega arith)

-- `w` bits make a number below 2^w
pub number_lt : (bit : ℕ → ℕ) (at w : ℕ) → Bitwise bit → number_from bit at w < 2 ^ w
unfolding number_from
number_lt bit at zero two = omega arith
number_lt bit at (suc w) two = rw (pow-suc 2 w) (omega (arith, number_lt bit at w two, two (at + w)))

-- the number depends on its own bits and on no others
pub number_same : (f g : ℕ → ℕ) (at w : ℕ) → ((i : ℕ) → at ≤ i → i < at + w → f i ≡ g i) → number_from f at w ≡ number_from g at w
unfolding number_from
number_same f g at zero same = refl
number_same f g at (suc w) same =
    let before = number_same f g at w (λ i low high. same i low (omega arith)) in
    let last = same (at + w) (omega arith) (omega arith) in
    cc

-- the first u bits and the w after them
pub number_split : (bit : ℕ → ℕ) (at u w : ℕ) → number_from bit at (u + w) ≡ number_from bit at u * 2 ^ w + number_from bit (at + u) w
unfolding number_from
number_split bit at u zero = rw (add-zero u) (omega arith)
number_split bit at u (suc w) =
    rw (add-suc u w, number_split bit at u w, pow-suc 2 w, ← mul_assoc (number_from bit at u) (2 ^ w) 2, add_assoc at u w) (omega arith)

-- the w bits that stand after the first u of them and before the last t
pub number_part : (bit : ℕ → ℕ) (at u w t : ℕ) → Bitwise bit → number_from bit at (u + w + t) / 2 ^ t % 2 ^ w ≡ number_from bit (at + u) w
number_part bit at u w t two =
    rw (number_split bit at (u + w) t, high (number_from bit at (u + w)) t (number_lt bit (at + (u + w)) t two), number_split bit at u w)
    (low (number_from bit at u) w (number_lt bit (at + u) w two))

-- the bits that a number is made of: bit i of w
pub number_bit : (bit : ℕ → ℕ) (at w i : ℕ) → Bitwise bit → i < w → number_from bit at w / 2 ^ (w - suc i) % 2 ≡ bit (at + i)
unfolding number_from
number_bit bit at w i two h =
    let parts : w ≡ i + 1 + (w - suc i) = omega arith in
    ap (λ (n : ℕ). number_from bit at n / 2 ^ (w - suc i) % 2) parts ∙ number_part bit at i 1 (w - suc i) two
    ∙ rw (add-zero (at + i)) (omega arith)

-- the bits of a number, put together again
pub number_of_bits : (bit : ℕ → ℕ) (at w v : ℕ) → ((i : ℕ) → i < w → bit (at + i) ≡ v / 2 ^ (w - suc i) % 2) → number_from bit at w ≡ v % 2 ^ w
unfolding number_from
number_of_bits bit at zero v same = omega arith
number_of_bits bit at (suc w) v same =
    let deeper : (i : ℕ) → i < w → bit (at + i) ≡ v / 2 / 2 ^ (w - suc i) % 2 =
    λ i h. same i (omega arith) ∙ ap (λ (k : ℕ). v / 2 ^ k % 2) (omega arith) ∙ ap (λ (x : ℕ). x % 2) (sym (shr-shr v 1 (w - suc i))) in
    let last : bit (at + w) ≡ v % 2 = same w (omega arith) ∙ ap (λ (k : ℕ). v / 2 ^ k % 2) {x = suc w - suc w} {y = 0} (omega arith) ∙ omega arith in
    rw (number_of_bits bit at w (v / 2) deeper, last, ← add-one w, mod-pow-add v w 1) refl
