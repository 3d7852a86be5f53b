-- Whole numbers on words: their words go as they do, and a sum and a difference can be taken on them.
use Rattle.std.specs.Prelude.{Bool, true, false, cond, not, ◌≡◌, refl, ℕ, zero, suc, ◌+◌, ◌-◌, ◌/◌, ◌<◌, ◌≤◌, ◌^◌, ltb, eqb, ℤ, pos, negsuc, neg_ℤ, ◌+ℤ◌, ◌-ℤ◌}
use Rattle.std.proofs.Common.{ap, ◌∙◌, arith, ltb-true, ltb-false, lt-ltb, le-ltb, eqb-true, eq-eqb, ne_eqb}
use Rattle.std.proofs.Math.IntN.{sub_ℕ}
use Rattle.std.specs.Int.Signed.{mag, lt_z}
use Rattle.std.proofs.lemmas.Bool.{eqb-false}
use Rattle.replies.specs.Plain.{both_true}
use Rattle.values.specs.declared.Number.{Number}
use Rattle.values.specs.Truths.{truth_of}
use Rattle.values.specs.Numbers.{in_range, fits_n, ranged, eq_z, sum_n, difference_n, less_n, equal_n}
use Rattle.words.specs.Words.{zero_word, shifted, number_word, truth_word}
use Rattle.judging.specs.Leaves.{whole, wholes, truth_by, less_word, equal_word, ranged_word, sum_word, difference_word}

-- ---- which words are whole numbers'

-- "a whole number from −2^47 to 2^47−1"
near : (z : ℤ) → in_range z ≡ true → mag z < 2 ^ 47
near z fits = ltb-true (mag z) (2 ^ 47) fits

-- a number in range is a word from 2^48 up to 2^49
pub whole_shifted : (z : ℤ) → in_range z ≡ true → whole (shifted z) ≡ true
whole_shifted (pos n) fits = eq-eqb ((zero_word + n) / 2 ^ 48) 1 (omega (arith, ltb-true n (2 ^ 47) fits))
whole_shifted (negsuc n) fits = eq-eqb ((zero_word - suc n) / 2 ^ 48) 1 (omega (arith, ltb-true n (2 ^ 47) fits))

-- and one outside is not
not_whole : (z : ℤ) → in_range z ≡ false → whole (shifted z) ≡ false
not_whole (pos n) out = ne_eqb ((zero_word + n) / 2 ^ 48) 1 (λ e. omega (arith, ltb-false n (2 ^ 47) out))
not_whole (negsuc n) out = ne_eqb ((zero_word - suc n) / 2 ^ 48) 1 (λ e. omega (arith, ltb-false n (2 ^ 47) out))

-- "A sum or difference outside the number range is undefined."
ranged_word_lem : (z : ℤ) → ranged_word (shifted z) ≡ number_word (ranged z)
ranged_word_lem z = by (in_range z) refl
  where
    by : (t : Bool) → in_range z ≡ t → ranged_word (shifted z) ≡ number_word (cond t (Number.Whole z) Number.Undefined)
    by true fits = rw (fits, whole_shifted z fits)
    by false out = rw (not_whole z out)

-- the two halves of a test that was passed: both words are from 2^48 up to 2^49
pub both_whole : (x y : ℕ) → wholes x y ≡ true → (x / 2 ^ 48 ≡ 1) × (y / 2 ^ 48 ≡ 1)
both_whole x y e =
    let both : (whole x ≡ true) × (whole y ≡ true) = both_true (whole x) (whole y) e in
    (eqb-true (x / 2 ^ 48) 1 both.0, eqb-true (y / 2 ^ 48) 1 both.1)

-- ---- order

-- two tests of order that go together
same_order : (a b c d : ℕ) → (a < b → c < d) → (b ≤ a → d ≤ c) → ltb c d ≡ ltb a b
same_order a b c d up down = by (ltb a b) refl
  where
    by : (t : Bool) → ltb a b ≡ t → ltb c d ≡ t
    by true e = lt-ltb c d (up (ltb-true a b e))
    by false e = le-ltb c d (down (ltb-false a b e))

-- two tests of sameness that go together
same_same : (a b c d : ℕ) → (a ≡ b → c ≡ d) → (c ≡ d → a ≡ b) → eqb c d ≡ eqb a b
same_same a b c d to from = by (eqb a b) refl
  where
    by : (t : Bool) → eqb a b ≡ t → eqb c d ≡ t
    by true e = eq-eqb c d (to (eqb-true a b e))
    by false e = ne_eqb c d (λ same. eqb-false a b e (from same))

-- of two words the lower is the lesser number's
less_shifted : (a b : ℤ) → mag a < 2 ^ 47 → mag b < 2 ^ 47 → ltb (shifted a) (shifted b) ≡ lt_z a b
less_shifted (pos a) (pos b) f g = same_order a b (zero_word + a) (zero_word + b) (λ h. omega arith) (λ h. omega arith)
less_shifted (pos a) (negsuc b) f g = le-ltb (zero_word + a) (zero_word - suc b) (omega arith)
less_shifted (negsuc a) (pos b) f g = lt-ltb (zero_word - suc a) (zero_word + b) (omega arith)
less_shifted (negsuc a) (negsuc b) f g = same_order b a (zero_word - suc a) (zero_word - suc b) (λ h. omega arith) (λ h. omega arith)

-- two words are the same where their numbers are
same_shifted : (a b : ℤ) → mag a < 2 ^ 47 → mag b < 2 ^ 47 → eqb (shifted a) (shifted b) ≡ eq_z a b
same_shifted (pos a) (pos b) f g = same_same a b (zero_word + a) (zero_word + b) (λ h. omega arith) (λ h. omega arith)
same_shifted (pos a) (negsuc b) f g = ne_eqb (zero_word + a) (zero_word - suc b) (λ h. omega arith)
same_shifted (negsuc a) (pos b) f g = ne_eqb (zero_word - suc a) (zero_word + b) (λ h. omega arith)
same_shifted (negsuc a) (negsuc b) f g = same_same a b (zero_word - suc a) (zero_word - suc b) (λ h. omega arith) (λ h. omega arith)

-- ---- sums

-- signs apart
apart_shifted : (a b : ℕ) → a ≤ 2 ^ 47 → b ≤ 2 ^ 47 → zero_word + a - suc b ≡ shifted (sub_ℕ a (suc b))
apart_shifted a b f g = by (ltb a (suc b)) refl
  where
    by : (t : Bool) → ltb a (suc b) ≡ t → zero_word + a - suc b ≡ shifted (cond t (negsuc (suc b - suc a)) (pos (a - suc b)))
    by true e = omega (arith, ltb-true a (suc b) e)
    by false e = omega (arith, ltb-false a (suc b) e)

-- the sum of two words is as far from twice the word of 0 as the sum of their numbers is from 0
sum_shifted : (a b : ℤ) → mag a ≤ 2 ^ 47 → mag b ≤ 2 ^ 47 → shifted a + shifted b - zero_word ≡ shifted (a +ℤ b)
sum_shifted (pos a) (pos b) f g = omega arith
sum_shifted (pos a) (negsuc b) f g = omega (arith, apart_shifted a b f g)
sum_shifted (negsuc a) (pos b) f g = omega (arith, apart_shifted b a g f)
sum_shifted (negsuc a) (negsuc b) f g = omega arith

-- a number and its negative stand on either side of the word of 0
turned_shifted : (b : ℤ) → mag b < 2 ^ 47 → (mag (neg_ℤ b) ≤ 2 ^ 47) × (shifted b + shifted (neg_ℤ b) ≡ zero_word + zero_word)
turned_shifted (pos zero) f = (omega arith, refl)
turned_shifted (pos (suc n)) f = (omega arith, omega arith)
turned_shifted (negsuc n) f = (omega arith, omega arith)

-- so a difference can be taken on words too
difference_shifted : (a b : ℤ) → mag a ≤ 2 ^ 47 → mag b < 2 ^ 47 → shifted a + zero_word - shifted b ≡ shifted (a -ℤ b)
difference_shifted a b f g =
    let turned = turned_shifted b g in
    let sum = sum_shifted a (neg_ℤ b) f turned.0 in
    omega (arith, turned.1, sum)

-- ---- numbers that may be undefined

-- a word that stands for a number: no whole number's, or that number's own
pub data Counted : Number → ℕ → Type 0 where
  unknown : {x : ℕ} → whole x ≡ false → Counted Number.Undefined x
  known : {z : ℤ} {x : ℕ} → in_range z ≡ true → x ≡ shifted z → Counted (Number.Whole z) x

-- the word of a number in range stands for it
pub counted : (x : Number) → fits_n x ≡ true → Counted x (number_word x)
counted Number.Undefined fits = unknown refl
counted (Number.Whole z) fits = let is : number_word (Number.Whole z) ≡ shifted z = rw fits in known fits is

-- "Sum ... undefined where an operand is."
pub sum_counted : {m n : Number} {x y : ℕ} → Counted m x → Counted n y → sum_word x y ≡ number_word (sum_n m n)
sum_counted (unknown out) second = rw out
sum_counted (known {z = a} fits is) (unknown out) = rw (is, whole_shifted a fits, out)
sum_counted (known {z = a} f is) (known {z = b} g same) =
    rw (is, same, whole_shifted a f, whole_shifted b g)
    (ap ranged_word (sum_shifted a b (omega (arith, near a f)) (omega (arith, near b g))) ∙ ranged_word_lem (a +ℤ b))

-- "difference N N (first less second)", "undefined where an operand is"
pub difference_counted : {m n : Number} {x y : ℕ} → Counted m x → Counted n y → difference_word x y ≡ number_word (difference_n m n)
difference_counted (unknown out) second = rw out
difference_counted (known {z = a} fits is) (unknown out) = rw (is, whole_shifted a fits, out)
difference_counted (known {z = a} f is) (known {z = b} g same) =
    rw (is, same, whole_shifted a f, whole_shifted b g)
    (ap ranged_word (difference_shifted a b (omega (arith, near a f)) (near b g)) ∙ ranged_word_lem (a -ℤ b))

-- a test that is known to hold or known not to
told_by_lem : (t : Bool) → truth_by t (not t) ≡ truth_word (truth_of t)
told_by_lem true = refl
told_by_lem false = refl

-- "less ... undefined where an operand is."
pub less_counted : {m n : Number} {x y : ℕ} → Counted m x → Counted n y → less_word x y ≡ truth_word (less_n m n)
less_counted (unknown out) second = rw out
less_counted (known {z = a} fits is) (unknown out) = rw (is, whole_shifted a fits, out)
less_counted (known {z = a} f is) (known {z = b} g same) =
    rw (is, same, whole_shifted a f, whole_shifted b g, less_shifted a b (near a f) (near b g)) (told_by_lem (lt_z a b))

-- "equal ... undefined where an operand is."
pub equal_counted : {m n : Number} {x y : ℕ} → Counted m x → Counted n y → equal_word x y ≡ truth_word (equal_n m n)
equal_counted (unknown out) second = rw out
equal_counted (known {z = a} fits is) (unknown out) = rw (is, whole_shifted a fits, out)
equal_counted (known {z = a} f is) (known {z = b} g same) =
    rw (is, same, whole_shifted a f, whole_shifted b g, same_shifted a b (near a f) (near b g)) (told_by_lem (eq_z a b))
