-- Tests over the numbers below a bound: that one holds at some of them, or at none, and the laws of both.
use Rattle.std.specs.Prelude.{Bool, true, false, not, ◌&&◌, ◌||◌, ◌≡◌, refl, ℕ, zero, suc, ◌<◌, T}
use Rattle.std.proofs.Math.Bool.{and-false, or-false, or_assoc, and_assoc, and_comm}
use Rattle.std.proofs.Common.{⊎_elim, sym, ◌∙◌, ap, subst, not-suc-le-zero, eq-or-lt_of_le, le_of_suc-le-suc, arith}

-- a test that holds at some number below n
unfoldable pub some_below : ℕ → (ℕ → Bool) → Bool
some_below zero p = false
some_below (suc n) p = some_below n p || p n

-- a test that holds at no number below n
unfoldable pub none_below : ℕ → (ℕ → Bool) → Bool
none_below zero p = true
none_below (suc n) p = none_below n p && not (p n)

-- both of two tests, taken apart and put together
pub both_parts : (a b : Bool) → T (a && b) → T a × T b
both_parts true b t = (tt, t)
both_parts false b t = absurd t

pub both_joined : (a b : Bool) → T a → T b → T (a && b)
both_joined true b p q = q
both_joined false b p q = absurd p

refuted : (a : Bool) → (T a → ⊥) → T (not a)
refuted true no_way = absurd (no_way tt)
refuted false no_way = tt

refutes : (a : Bool) → T (not a) → T a → ⊥
refutes true p q = p
refutes false p q = q

-- one of two tests
pub either_split : {X : Type 0} (a b : Bool) → (T a → X) → (T b → X) → T (a || b) → X
either_split true b f g t = f tt
either_split false b f g t = g t

pub either_left : (a b : Bool) → T a → T (a || b)
either_left true b t = tt
either_left false b t = absurd t

pub either_right : (a b : Bool) → T b → T (a || b)
either_right true b t = tt
either_right false b t = t

-- `some_below` finds a number below n
pub some_found : (n : ℕ) (p : ℕ → Bool) → T (some_below n p) → (j : ℕ) × (j < n) × T (p j)
unfolding some_below
some_found zero p t = absurd t
some_found (suc n) p t =
    either_split (some_below n p) (p n) (λ s. let f = some_found n p s in (f.0, omega arith, f.2)) (λ h. (n, omega arith, h)) t

-- and any number below n is found
pub some_here : (n : ℕ) (p : ℕ → Bool) (j : ℕ) → j < n → T (p j) → T (some_below n p)
unfolding some_below
some_here zero p j h t = absurd (not-suc-le-zero h)
some_here (suc n) p j h t =
    ⊎_elim (λ e. either_right (some_below n p) (p n) (subst (λ i. T (p i)) e t)) (λ l. either_left (some_below n p) (p n) (some_here n p j l t))
    (eq-or-lt_of_le (le_of_suc-le-suc h))

-- `none_below` leaves no number below n
pub none_there : (n : ℕ) (p : ℕ → Bool) → T (none_below n p) → (j : ℕ) → j < n → T (p j) → ⊥
unfolding none_below
none_there zero p t j h q = not-suc-le-zero h
none_there (suc n) p t j h q =
    let parts = both_parts (none_below n p) (not (p n)) t in
    ⊎_elim (λ e. refutes (p n) parts.1 (subst (λ i. T (p i)) e q)) (λ l. none_there n p parts.0 j l q) (eq-or-lt_of_le (le_of_suc-le-suc h))

-- and where none is there it says so
pub none_here : (n : ℕ) (p : ℕ → Bool) → ((j : ℕ) → j < n → T (p j) → ⊥) → T (none_below n p)
unfolding none_below
none_here zero p f = tt
none_here (suc n) p f = both_joined (none_below n p) (not (p n)) (none_here n p (λ j h. f j (omega arith))) (refuted (p n) (f n (omega arith)))

-- some number below n + 1: it is 0, or one more than some number below n
pub some_front : (n : ℕ) (p : ℕ → Bool) → some_below (suc n) p ≡ (p 0 || some_below n (λ j. p (suc j)))
unfolding some_below
some_front zero p = sym (or-false (p 0))
some_front (suc n) p = ap (λ b. b || p (suc n)) (some_front n p) ∙ or_assoc (p 0) (some_below n (λ j. p (suc j))) (p (suc n))

-- no number below n + 1: not 0, and not one more than a number below n
pub none_front : (n : ℕ) (p : ℕ → Bool) → none_below (suc n) p ≡ (not (p 0) && none_below n (λ j. p (suc j)))
unfolding none_below
none_front zero p = and_comm true (not (p 0))
none_front (suc n) p = ap (λ b. b && not (p (suc n))) (none_front n p) ∙ and_assoc (not (p 0)) (none_below n (λ j. p (suc j))) (not (p (suc n)))

-- what every case needs goes out in front
pub some_needs : (n : ℕ) (c : Bool) (x y : ℕ → Bool) → some_below n (λ j. x j && (c && y j)) ≡ (c && some_below n (λ j. x j && y j))
unfolding some_below
some_needs zero true x y = refl
some_needs zero false x y = refl
some_needs (suc n) true x y = refl
some_needs (suc n) false x y = ap (λ b. b || (x n && false)) (some_needs n false x y) ∙ and-false (x n)
