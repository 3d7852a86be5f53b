-- Whole bytes as a number: what a window of bytes holds.
use Rattle.std.specs.Prelude.{List, ◌≡◌, ℕ, zero, suc, ◌+◌, ◌-◌, ◌*◌, ◌/◌, ◌%◌, ◌^◌, ◌<◌, ◌≤◌, get_or}
use Rattle.std.proofs.Common.{◌∙◌, ap, mod-eq_of_lt, arith, pow_mono}
use Rattle.bits.specs.Bits.{number_from, bit_at, bits_at}
use Rattle.bits.specs.Digits.{bit_lt, number_lt, number_split, number_of_bits, number_part}

-- the eight bits of a byte make the byte
pub byte_number : (s : List ℕ) (i : ℕ) → get_or s i 0 < 256 → bits_at s (8 * i) 8 ≡ get_or s i 0
unfolding bits_at bit_at
byte_number s i byte =
    number_of_bits (bit_at s) (8 * i) 8 (get_or s i 0)
    (λ j h. ap (λ (k : ℕ). get_or s k 0 / 2 ^ (7 - (8 * i + j) % 8) % 2) {x = (8 * i + j) / 8} {y = i} (omega arith)
    ∙ ap (λ (k : ℕ). get_or s i 0 / 2 ^ k % 2) {x = 7 - (8 * i + j) % 8} {y = 8 - suc j} (omega arith))
    ∙ mod-eq_of_lt byte

-- a field is below 2^w
pub bits_lt : (s : List ℕ) (at w : ℕ) → bits_at s at w < 2 ^ w
unfolding bits_at
bits_lt s at w = number_lt (bit_at s) at w (bit_lt s)

-- up to six bytes make a number below 2^48
pub window_lt : (s : List ℕ) (first i : ℕ) → i ≤ 6 → bits_at s (8 * first) (8 * i) < 2 ^ 48
window_lt s first i h = omega (arith, bits_lt s (8 * first) (8 * i), pow_mono {i = 8 * i} {j = 48} (omega arith))

-- some bytes and those after them
pub window_join : (s : List ℕ) (first i n : ℕ)
    → bits_at s (8 * first) (8 * (i + n)) ≡ bits_at s (8 * first) (8 * i) * 2 ^ (8 * n) + bits_at s (8 * (first + i)) (8 * n)
unfolding bits_at
window_join s first i n =
    let wide : 8 * (i + n) ≡ 8 * i + 8 * n = omega arith in
    let place : 8 * first + 8 * i ≡ 8 * (first + i) = omega arith in
    rw (wide, number_split (bit_at s) (8 * first) (8 * i) (8 * n), place)

-- one byte more
pub window_more : (s : List ℕ) (first i : ℕ) → get_or s (first + i) 0 < 256
    → bits_at s (8 * first) (8 * (i + 1)) ≡ bits_at s (8 * first) (8 * i) * 256 + get_or s (first + i) 0
window_more s first i byte =
    window_join s first i 1 ∙ ap (λ (x : ℕ). bits_at s (8 * first) (8 * i) * 256 + x) (byte_number s (first + i) byte)

-- four bytes
pub four_bytes : (s : List ℕ) (first : ℕ) → get_or s first 0 < 256 → get_or s (first + 1) 0 < 256 → get_or s (first + 2) 0 < 256 → get_or s (first + 3) 0 < 256
    → get_or s first 0 * 16777216 + get_or s (first + 1) 0 * 65536 + get_or s (first + 2) 0 * 256 + get_or s (first + 3) 0 ≡ bits_at s (8 * first) 32
four_bytes s first a b c d =
    omega (arith, byte_number s first a, window_more s first 1 b, window_more s first 2 c, window_more s first 3 d)

-- a field within a window of n bits, t of them after it
pub window_field : (s : List ℕ) (from n at w t : ℕ) → from ≤ at → at + w + t ≡ from + n → bits_at s from n / 2 ^ t % 2 ^ w ≡ bits_at s at w
unfolding bits_at
window_field s from n at w t starts ends =
    let wide : n ≡ at - from + w + t = omega arith in
    let place : from + (at - from) ≡ at = omega arith in
    ap (λ (m : ℕ). bits_at s from m / 2 ^ t % 2 ^ w) wide
    ∙ number_part (bit_at s) from (at - from) w t (bit_lt s)
    ∙ ap (λ (m : ℕ). bits_at s m w) place

-- the same where n counts as 0: only after a field of no bits are there so many
pub window_shifted : (s : List ℕ) (from n at w t : ℕ) → from ≤ at → at + w + t ≡ from + n → bits_at s from n / 2 ^ (t % n) % 2 ^ w ≡ bits_at s at w
unfolding bits_at number_from
window_shifted s from n at zero t starts ends = omega arith
window_shifted s from n at (suc w) t starts ends =
    ap (λ (k : ℕ). bits_at s from n / 2 ^ k % 2 ^ suc w) (mod-eq_of_lt (omega arith)) ∙ window_field s from n at (suc w) t starts ends
