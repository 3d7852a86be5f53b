-- Whole numbers of 64 bits: what a test of one says, and where a sum and a difference can be taken.
use mathlib.Core.Path.{◌≡◌, refl, sym, ap, ◌∙◌}
use mathlib.Core.Bool.{Bool, true, false, cond, not, ◌&&◌, ◌||◌, beq, true≢false, false≢true}
use mathlib.Core.Logic.{◌⊎◌, inl, inr}
use Prim.Native.Nat.{ℕ, zero, suc, ◌+◌, ◌-◌, ◌<◌, ◌≤◌, ◌^◌}
use native.Mathlib.Decide.{ℕ_discrete}
use native.Mathlib.Omega.{arith}
use lib.Dec.{ltb, eqb}
use lib.IntN.{ℤ, pos, negsuc, neg_ℤ, sub_ℕ, suc_ℤ, pred_ℤ, suc-pred, ◌+ℤ◌, ◌-ℤ◌, +ℤ_comm, +ℤ_idr, +ℤ-pred_ℤ}
use lib.Signed.{mag, lt_z}
use mir.Syntax.{w64}
use mir.Val.{SFits, to_z, of_z}
use mir.ValLaws.{to_z-of_z}
use borrow.Author.Tests.{ltb-true, ltb-false, lt-ltb, le-ltb, eq-eqb, ne_eqb}
use Rattle.replies.specs.Plain.{both_true}
use Rattle.values.specs.Numbers.{in_range, ranged, eq_z}
use Rattle.values.specs.declared.Number.{Number}
use Rattle.values.specs.declared.Number.TheVariants.{Undefined, Whole}
use Rattle.values.specs.Adding.{negative, addable}

-- a signed number that is passed or stored is read back from its bits
abbrev read : ℤ → ℤ
read z = to_z w64 (of_z w64 z)

plain : {z : ℤ} → SFits w64 z → read z ≡ z
plain {z} f = to_z-of_z w64 z f

-- what a match tells of a bound whole number: x is Whole z, and z has 64 bits
module _ {x : Number} (a : (v : ℤ × Unit {0}) × (x ≡ Whole v.0)) (f : mag a.0.0 < 2 ^ 63) where
  bound : x ≡ Whole (read a.0.0)
  bound = a.1 ∙ ap Whole (sym (plain (record { sfits = f })))

  pub on_whole : {A : Type 0} (op : Number → A) {r : A} → r ≡ op (Whole (read a.0.0)) → r ≡ op x
  on_whole op e = e ∙ sym (ap op bound)

pub on_wholes : {A : Type 0} (op : Number → Number → A) {r : A} {x y : Number}
    (a : (v : ℤ × Unit {0}) × (x ≡ Whole v.0)) → mag a.0.0 < 2 ^ 63 →
    (b : (v : ℤ × Unit {0}) × (y ≡ Whole v.0)) → mag b.0.0 < 2 ^ 63 →
    r ≡ op (Whole (read a.0.0)) (Whole (read b.0.0)) → r ≡ op x y
on_wholes op {x = x} a f b g e = on_whole b g (op x) (on_whole a f (λ (n : Number). op n (Whole (read b.0.0))) e)

-- ---- tests

below_zero : (z : ℤ) → lt_z z (pos 0) ≡ negative z
below_zero (pos n) = le-ltb n 0 (omega arith)
below_zero (negsuc n) = refl

too_low : (z : ℤ) → lt_z z (negsuc 140737488355327) ≡ true → in_range z ≡ false
too_low (pos n) e = absurd (false≢true e)
too_low (negsuc n) e = le-ltb n (2 ^ 47) (ltb-true 140737488355327 n e)

high_enough : (z : ℤ) → lt_z z (negsuc 140737488355327) ≡ false → lt_z z (pos 140737488355328) ≡ in_range z
high_enough (pos n) e = refl
high_enough (negsuc n) e = sym (lt-ltb n (2 ^ 47) (omega (arith, ltb-false 140737488355327 n e)))

module _ {z : ℤ} (f : SFits w64 z) where
  pub is_negative : lt_z (read z) (pos 0) ≡ negative z
  is_negative = rw (plain f) (below_zero z)

  pub not_in_range : lt_z (read z) (negsuc 140737488355327) ≡ true → false ≡ in_range z
  not_in_range e = sym (too_low z (rw (plain f) at e))

  pub is_in_range : lt_z (read z) (negsuc 140737488355327) ≡ false → lt_z (read z) (pos 140737488355328) ≡ in_range z
  is_in_range e = rw (plain f) (high_enough z (rw (plain f) at e))

eqb_same : (a b c d : ℕ) → (a ≡ b → c ≡ d) → (c ≡ d → a ≡ b) → eqb a b ≡ eqb c d
eqb_same a b c d f g = by (ℕ_discrete c d)
  where
    by : Dec (c ≡ d) → eqb a b ≡ eqb c d
    by (yes e) = eq-eqb a b (g e) ∙ sym (eq-eqb c d e)
    by (no h) = ne_eqb a b (λ e. h (f e)) ∙ sym (ne_eqb c d h)

-- two numbers are the same exactly if their bits are
pub same_bits : (a b : ℤ) → mag a < 2 ^ 63 → mag b < 2 ^ 63 → eqb (of_z w64 a) (of_z w64 b) ≡ eq_z a b
same_bits (pos a) (pos b) f g = refl
same_bits (pos a) (negsuc b) f g = ne_eqb a (2 ^ 64 - suc b) (λ e. omega arith)
same_bits (negsuc a) (pos b) f g = ne_eqb (2 ^ 64 - suc a) b (λ e. omega arith)
same_bits (negsuc a) (negsuc b) f g =
    eqb_same (2 ^ 64 - suc a) (2 ^ 64 - suc b) a b (λ e. omega arith) (λ e. omega arith)

-- ---- the range

undefined_if : (z : ℤ) → in_range z ≡ false → ranged z ≡ Undefined
undefined_if z e = ap (λ (t : Bool). cond t (Whole z) Undefined) e

module _ {z : ℤ} (f : SFits w64 z) {t : Bool} (e : t ≡ in_range (read z)) where
  told : {u : Bool} → t ≡ u → in_range z ≡ u
  told k = ap in_range (sym (plain f)) ∙ sym e ∙ k

  pub whole : t ≡ true → Whole (read z) ≡ ranged z
  whole k = ap Whole (plain f) ∙ sym (ap (λ (t : Bool). cond t (Whole z) Undefined) (told k))

  pub not_whole : t ≡ false → Undefined ≡ ranged z
  not_whole k = sym (ap (λ (t : Bool). cond t (Whole z) Undefined) (told k))

-- ---- sums

either : (p q : Bool) → (p && q) ≡ false → (p ≡ false) ⊎ (q ≡ false)
either true q e = inr e
either false q e = inl refl

near : (a b : ℕ) → (ltb a (2 ^ 47) && ltb b (2 ^ 47)) ≡ true → a + b < 2 ^ 48 - 1
near a b e =
    let p : (ltb a (2 ^ 47) ≡ true) × (ltb b (2 ^ 47) ≡ true) = both_true _ _ e in
    omega (arith, ltb-true a (2 ^ 47) p.0, ltb-true b (2 ^ 47) p.1)

far : (a b s : ℕ) → (ltb a (2 ^ 47) && ltb b (2 ^ 47)) ≡ false → a ≤ s → b ≤ s → ltb s (2 ^ 47) ≡ false
far a b s e p q = le-ltb s (2 ^ 47) (out (either _ _ e))
  where
    out : (ltb a (2 ^ 47) ≡ false) ⊎ (ltb b (2 ^ 47) ≡ false) → 2 ^ 47 ≤ s
    out (inl u) = omega (arith, ltb-false a (2 ^ 47) u)
    out (inr u) = omega (arith, ltb-false b (2 ^ 47) u)

-- signs apart
mixed : (a b : ℕ) → a < 2 ^ 63 → b < 2 ^ 63 → mag (sub_ℕ a (suc b)) < 2 ^ 63
mixed a b f g = by (ltb a (suc b))
  where
    by : (t : Bool) → mag (cond t (negsuc (suc b - suc a)) (pos (a - suc b))) < 2 ^ 63
    by true = omega arith
    by false = omega arith

sum_mag : (a b : ℤ) → mag a < 2 ^ 63 → mag b < 2 ^ 63 → addable a b ≡ true → mag (a +ℤ b) < 2 ^ 63
sum_mag (pos a) (pos b) f g e = omega (arith, near a b e)
sum_mag (pos a) (negsuc b) f g e = mixed a b f g
sum_mag (negsuc a) (pos b) f g e = mixed b a g f
sum_mag (negsuc a) (negsuc b) f g e = omega (arith, near a b e)

sum_far : (a b : ℤ) → addable a b ≡ false → in_range (a +ℤ b) ≡ false
sum_far (pos a) (pos b) e = far a b (a + b) e (omega arith) (omega arith)
sum_far (pos a) (negsuc b) e = absurd (true≢false e)
sum_far (negsuc a) (pos b) e = absurd (true≢false e)
sum_far (negsuc a) (negsuc b) e = far a b (suc (a + b)) e (omega arith) (omega arith)

-- ---- differences: a − b is one more than a + (−1 − b)

less_one : (b : ℤ) → negsuc 0 -ℤ b ≡ pred_ℤ (neg_ℤ b)
less_one b = +ℤ_comm (negsuc 0) (neg_ℤ b) ∙ +ℤ-pred_ℤ (neg_ℤ b) (pos 0) ∙ ap pred_ℤ (+ℤ_idr (neg_ℤ b))

less_one_mag : (b : ℤ) → mag (negsuc 0 -ℤ b) ≡ mag b
less_one_mag b = ap mag (less_one b) ∙ mirror b
  where
    mirror : (b : ℤ) → mag (pred_ℤ (neg_ℤ b)) ≡ mag b
    mirror (pos zero) = refl
    mirror (pos (suc n)) = refl
    mirror (negsuc n) = refl

one_more : (a b : ℤ) → a -ℤ b ≡ suc_ℤ (a +ℤ (negsuc 0 -ℤ b))
one_more a b = sym (ap (λ (k : ℤ). suc_ℤ (a +ℤ k)) (less_one b) ∙ ap suc_ℤ (+ℤ-pred_ℤ a (neg_ℤ b)) ∙ suc-pred (a -ℤ b))

next_mag : (x : ℕ) → mag (suc_ℤ (negsuc x)) ≤ x
next_mag zero = omega arith
next_mag (suc x) = omega arith

suc_mixed : (a b : ℕ) → a < 2 ^ 63 → b < 2 ^ 63 → mag (suc_ℤ (sub_ℕ a (suc b))) < 2 ^ 63
suc_mixed a b f g = by (ltb a (suc b))
  where
    by : (t : Bool) → mag (suc_ℤ (cond t (negsuc (suc b - suc a)) (pos (a - suc b)))) < 2 ^ 63
    by true = omega (arith, next_mag (suc b - suc a))
    by false = omega arith

suc_mag : (a b : ℤ) → mag a < 2 ^ 63 → mag b < 2 ^ 63 → addable a b ≡ true → mag (suc_ℤ (a +ℤ b)) < 2 ^ 63
suc_mag (pos a) (pos b) f g e = omega (arith, near a b e)
suc_mag (pos a) (negsuc b) f g e = suc_mixed a b f g
suc_mag (negsuc a) (pos b) f g e = suc_mixed b a g f
suc_mag (negsuc a) (negsuc b) f g e = omega (arith, near a b e)

suc_far : (a b : ℤ) → addable a b ≡ false → in_range (suc_ℤ (a +ℤ b)) ≡ false
suc_far (pos a) (pos b) e = far a b (suc (a + b)) e (omega arith) (omega arith)
suc_far (pos a) (negsuc b) e = absurd (true≢false e)
suc_far (negsuc a) (pos b) e = absurd (true≢false e)
suc_far (negsuc a) (negsuc b) e = far a b (a + b) e (omega arith) (omega arith)

-- ---- the same of what the machine reads back

pub less_one_fits : {b : ℤ} → SFits w64 b → SFits w64 (negsuc 0 -ℤ read b)
less_one_fits {b} f = record { sfits = rw (plain f, less_one_mag b) f.sfits }

module _ {a b : ℤ} (f : SFits w64 a) (g : SFits w64 b) where
  pub is_addable : {p q t u v : Bool} → p ≡ negative (read a) → q ≡ negative (read b) → not (beq p q) ≡ t →
      in_range (read a) ≡ u → in_range (read b) ≡ v → (t || u && v) ≡ addable a b
  is_addable e h k i j = rw (← plain f, ← plain g, ← e, ← h, k, i, j)

  module _ {t : Bool} (e : t ≡ addable (read a) (read b)) where
    can_add : {u : Bool} → t ≡ u → addable a b ≡ u
    can_add k = rw (← plain f, ← plain g, ← e) k

    pub sum_fits : t ≡ true → SFits w64 (read a +ℤ read b)
    sum_fits k = rw (plain f, plain g) (record { sfits = sum_mag a b f.sfits g.sfits (can_add k) })

    pub sum_is : t ≡ true → {r : Number} → r ≡ ranged (read (read a +ℤ read b)) → r ≡ ranged (a +ℤ b)
    sum_is k r = rw (plain (sum_fits k), plain f, plain g) at r

    pub sum_outside : t ≡ false → Undefined ≡ ranged (a +ℤ b)
    sum_outside k = sym (undefined_if (a +ℤ b) (sum_far a b (can_add k)))

  module _ {t : Bool} (e : t ≡ addable (read a) (read (negsuc 0 -ℤ read b))) where
    can_subtract : {u : Bool} → t ≡ u → addable a (negsuc 0 -ℤ b) ≡ u
    can_subtract k = sym (rw (plain (less_one_fits g), plain f, plain g) at e) ∙ k

    pub difference_fits : t ≡ true → SFits w64 (read a -ℤ read b)
    difference_fits k = rw (plain f, plain g, one_more a b)
        (record { sfits = suc_mag a (negsuc 0 -ℤ b) f.sfits (rw less_one_mag g.sfits) (can_subtract k) })

    pub difference_is : t ≡ true → {r : Number} → r ≡ ranged (read (read a -ℤ read b)) → r ≡ ranged (a -ℤ b)
    difference_is k r = rw (plain (difference_fits k), plain f, plain g) at r

    pub difference_outside : t ≡ false → Undefined ≡ ranged (a -ℤ b)
    difference_outside k =
        sym (undefined_if (a -ℤ b) (ap in_range (one_more a b) ∙ suc_far a (negsuc 0 -ℤ b) (can_subtract k)))
