-- What `put` computes by shifts: nothing is shifted out of 64 bits.
use mathlib.Core.Path.{◌≡◌, refl, sym, ap, ◌∙◌}
use Prim.Native.Nat.{ℕ, ◌+◌, ◌-◌, ◌*◌, ◌/◌, ◌%◌, ◌^◌, ◌<◌, ◌≤◌}
use native.Mathlib.Nat.{add-zero, mod-lt, suc-mul, mul-le-mul_right, mul-mod_left}
use native.Mathlib.Omega.{arith}
use Rattle.std.proofs.Math.Arith.{mod-mul}
use lib.Pow.{pow_pos, pow-add, shr_lt, shr-shr, shl_exact}
use Rattle.bits.specs.Window.{replaced}

-- a high part of a bits and a low part of b bits make a + b bits
join_lt : {p r : ℕ} (a b : ℕ) → p < 2 ^ a → r < 2 ^ b → p * 2 ^ b + r < 2 ^ (a + b)
join_lt {p} {r} a b h k = rw (pow-add 2 a b) (omega (arith, rw (suc-mul p (2 ^ b)) at (mul-le-mul_right (2 ^ b) h)))

-- a one, shifted
pub one_shifted : (n : ℕ) → n < 64 → 1 * 2 ^ n % 2 ^ 64 ≡ 2 ^ n
one_shifted n h = shl_exact {a = 1} 1 n 64 (omega arith) (omega arith) ∙ omega arith

pub one_positive : (n : ℕ) → n < 64 → 0 < 1 * 2 ^ n % 2 ^ 64
one_positive n h = rw (one_shifted n h) (pow_pos n)

-- a number shifted up, and as many bits as it was shifted by: no more than 64 bits
pub joined_small : (x n v : ℕ) → n < 64 → x * 2 ^ n % 2 ^ 64 + v % (1 * 2 ^ n % 2 ^ 64) < 2 ^ 64
joined_small x n v h =
    let e : 2 ^ (64 - n + n) ≡ 2 ^ 64 = ap (λ (k : ℕ). 2 ^ k) {x = 64 - n + n} {y = 64} (omega (arith, h)) in
    let high = x * 2 ^ n / 2 ^ n % 2 ^ (64 - n) in
    let shifted : x * 2 ^ n % 2 ^ 64 ≡ high * 2 ^ n =
    ap (λ (m : ℕ). x * 2 ^ n % m) (sym e ∙ pow-add 2 (64 - n) n)
    ∙ mod-mul (x * 2 ^ n) (pow_pos (64 - n)) (pow_pos n)
    ∙ rw (mul-mod_left x (2 ^ n), add-zero) refl in
    rw (one_shifted n h, shifted, ← e) (join_lt (64 - n) n (mod-lt (x * 2 ^ n / 2 ^ n) (pow_pos (64 - n))) (mod-lt v (pow_pos n)))

module _ (x w t v : ℕ) (small : x < 2 ^ 64) (narrow : w ≤ 48) (shift : t ≤ 63) (fits : w + t ≤ 64) where
  abbrev front : ℕ
  front = x / 2 ^ t / 2 ^ w * 2 ^ w % 2 ^ 64 + v % (1 * 2 ^ w % 2 ^ 64)

  abbrev whole : ℕ
  whole = front * 2 ^ t % 2 ^ 64 + x % (1 * 2 ^ t % 2 ^ 64)

  above_is : x / 2 ^ t / 2 ^ w ≡ x / 2 ^ (w + t)
  above_is = shr-shr x t w ∙ ap (λ (n : ℕ). x / 2 ^ n) {x = t + w} {y = w + t} (omega arith)

  above : x / 2 ^ t / 2 ^ w < 2 ^ (64 - (w + t))
  above =
      let e : 64 ≡ 64 - (w + t) + (w + t) = omega arith in
      rw above_is (shr_lt (64 - (w + t)) (w + t) (omega (arith, ap (λ (n : ℕ). 2 ^ n) e)))

  front_is : front ≡ x / 2 ^ t / 2 ^ w * 2 ^ w + v % 2 ^ w
  front_is = rw (one_shifted w (omega arith), shl_exact {a = x / 2 ^ t / 2 ^ w} (64 - (w + t)) w 64 above (omega arith))

  front_lt : front < 2 ^ (64 - t)
  front_lt =
      let e : 64 - t ≡ 64 - (w + t) + w = omega arith in
      rw (front_is, e) (join_lt (64 - (w + t)) w above (mod-lt v (pow_pos w)))

  whole_is : whole ≡ front * 2 ^ t + x % 2 ^ t
  whole_is = rw (one_shifted t (omega arith), shl_exact {a = front} (64 - t) t 64 front_lt (omega arith))

  pub whole_replaced : whole ≡ replaced x w t v
  unfolding replaced
  whole_replaced =
      whole_is
      ∙ ap (λ (y : ℕ). y * 2 ^ t + x % 2 ^ t) (front_is ∙ ap (λ (y : ℕ). y * 2 ^ w + v % 2 ^ w) above_is)
