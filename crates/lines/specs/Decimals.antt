-- Laws of decimal digits: the last digit is the remainder, the others are those of the quotient.
use Rattle.std.specs.Prelude.{Bool, true, false, cond, List, [], ◌∷◌, ◌++◌, ◌≡◌, refl, ℕ, zero, suc, ◌+◌, ◌/◌, ◌%◌, ◌^◌, ◌<◌, ◌≤◌, ltb, length}
use Rattle.std.proofs.Common.{append_assoc, sym, ◌∙◌, ap, subst, not-suc-le-zero, pow-suc, arith, lt-ltb, le-ltb, length-append}
use Rattle.std.proofs.Math.Decide.{dec_lt}
use Rattle.lines.specs.Text.{digits_to, decimal}
use Rattle.lines.specs.Laying.{Lays, lays_then}

-- the two cases of the definition as a `cond`, which `rw` looks into
digits_cases : (most n : ℕ) → digits_to (suc most) n ≡ cond (ltb n 10) ((48 + n) ∷ []) (digits_to most (n / 10) ++ ((48 + n % 10) ∷ []))
unfolding digits_to
digits_cases most n =
    let one = (48 + n) ∷ [] in
    let more = digits_to most (n / 10) ++ ((48 + n % 10) ∷ []) in
    elim (ltb n 10) as (λ (b : Bool). elim b [ true ↦ one | false ↦ more ] ≡ cond b one more) [ true ↦ refl | false ↦ refl ]

-- as many digits as there may be, where that is enough, don't matter
digits_enough : (most more n : ℕ) → n < most → n < more → digits_to most n ≡ digits_to more n
digits_enough zero more n enough also = absurd (not-suc-le-zero enough)
digits_enough (suc most) zero n enough also = absurd (not-suc-le-zero also)
digits_enough (suc most) (suc more) n enough also =
    elim (dec_lt n 10) [
      | yes l ↦ rw (digits_cases most n, digits_cases more n, lt-ltb n 10 l) refl
      | no h ↦ rw (digits_cases most n, digits_cases more n, le-ltb n 10 (omega arith)) (ap (λ (d : List ℕ). d ++ ((48 + n % 10) ∷ [])) (digits_enough most more (n / 10) (omega arith) (omega arith)))
    ]

-- one digit
pub decimal_one : (n : ℕ) → n < 10 → decimal n ≡ (48 + n % 10) ∷ []
unfolding decimal
decimal_one n small = let one : n ≡ n % 10 = omega arith in rw (digits_cases n n, lt-ltb n 10 small) (ap (λ (m : ℕ). (48 + m) ∷ []) one)

-- more than one
pub decimal_more : (n : ℕ) → 10 ≤ n → decimal n ≡ decimal (n / 10) ++ ((48 + n % 10) ∷ [])
unfolding decimal
decimal_more n large =
    rw (digits_cases n n, le-ltb n 10 large) (ap (λ (d : List ℕ). d ++ ((48 + n % 10) ∷ [])) (digits_enough n (suc (n / 10)) (n / 10) (omega arith) (omega arith)))

-- a number of one digit, laid
pub lays_digit : {dst after : List ℕ} {at next : ℕ} (n : ℕ) → n < 10 → Lays dst at ((48 + n % 10) ∷ []) after next → Lays dst at (decimal n) after next
lays_digit {dst} {after} {at} {next} n small lays = subst (λ (x : List ℕ). Lays dst at x after next) (sym (decimal_one n small)) lays

-- a number of more digits, laid: those of the quotient, then the last
pub lays_digits : {dst mid after : List ℕ} {at place next : ℕ} (n : ℕ) → 10 ≤ n → Lays dst at (decimal (n / 10)) mid place
    → Lays mid place ((48 + n % 10) ∷ []) after next → Lays dst at (decimal n) after next
lays_digits {dst} {after = after} {at} {next = next} n large some last =
    subst (λ (x : List ℕ). Lays dst at x after next) (sym (decimal_more n large)) (lays_then some last)

-- a number of two digits, laid one after the other
pub lays_two : {dst mid after : List ℕ} {at place next : ℕ} (n : ℕ) → n < 100 → 10 ≤ n → Lays dst at ((48 + n / 10 % 10) ∷ []) mid place
    → Lays mid place ((48 + n % 10) ∷ []) after next → Lays dst at (decimal n) after next
lays_two n small large first last = lays_digits n large (lays_digit (n / 10) (omega arith) first) last

-- the last two digits of a number
abbrev pub last_two : ℕ → List ℕ
last_two n = (48 + n / 10 % 10) ∷ (48 + n % 10) ∷ []

-- they are laid one after the other
pub lays_last_two : {dst mid after : List ℕ} {at place next : ℕ} (n : ℕ) → Lays dst at ((48 + n / 10 % 10) ∷ []) mid place
    → Lays mid place ((48 + n % 10) ∷ []) after next → Lays dst at (last_two n) after next
lays_last_two n first last = lays_then first last

-- from a hundred on the last two digits follow those of the hundreds
decimal_hundreds : (n : ℕ) → 100 ≤ n → decimal n ≡ decimal (n / 100) ++ last_two n
decimal_hundreds n large =
    decimal_more n (omega arith)
    ∙ ap (λ (d : List ℕ). d ++ ((48 + n % 10) ∷ []))
    (decimal_more (n / 10) (omega arith) ∙ ap (λ (m : ℕ). decimal m ++ ((48 + n / 10 % 10) ∷ [])) {x = n / 10 / 10} {y = n / 100} (omega arith))
    ∙ append_assoc (decimal (n / 100)) ((48 + n / 10 % 10) ∷ []) ((48 + n % 10) ∷ [])

-- so they are laid
pub lays_hundreds : {dst mid after : List ℕ} {at place next : ℕ} (n : ℕ) → 100 ≤ n → Lays dst at (decimal (n / 100)) mid place → Lays mid place (last_two n) after next
    → Lays dst at (decimal n) after next
lays_hundreds {dst} {after = after} {at} {next = next} n large some last =
    subst (λ (x : List ℕ). Lays dst at x after next) (sym (decimal_hundreds n large)) (lays_then some last)

-- and four digits after those of the ten thousands
pub lays_thousands : {dst one two after : List ℕ} {at a b next : ℕ} (n : ℕ) → 10000 ≤ n → Lays dst at (decimal (n / 10000)) one a → Lays one a (last_two (n / 100)) two b
    → Lays two b (last_two n) after next → Lays dst at (decimal n) after next
lays_thousands {dst} {one} {at = at} {a} n large some tens last =
    lays_hundreds n (omega arith)
    (lays_hundreds (n / 100) (omega arith) (subst (λ (m : ℕ). Lays dst at (decimal m) one a) {x = n / 10000} {y = n / 100 / 100} (omega arith) some) tens)
    last

-- a number below a power of ten has no more digits than the power says
pub decimal_length : (d n : ℕ) → n < 10 ^ suc d → length (decimal n) ≤ suc d
decimal_length zero n small = rw (decimal_one n small) (omega arith)
decimal_length (suc d) n small =
    elim (dec_lt n 10) [
      | yes one ↦ rw (decimal_one n one) (omega arith)
      | no more ↦
          let some = decimal_length d (n / 10) (omega (arith, rw (pow-suc 10 (suc d)) at small)) in
          rw (decimal_more n (omega arith), length-append) (omega arith)
    ]
