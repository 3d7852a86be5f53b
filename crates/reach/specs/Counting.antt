-- How many marks are set: never more than there are, and one more with each that is newly set.
use Rattle.std.specs.Prelude.{Bool, true, false, List, [], ◌∷◌, ◌≡◌, refl, ℕ, zero, suc, ◌<◌, ◌≤◌, T, length, get_or, set}
use Rattle.std.proofs.Common.{ap, not-suc-le-zero, arith}
use Rattle.replies.specs.Plain.{never}

-- how many are set
unfoldable pub count_of : List Bool → ℕ
count_of [] = 0
count_of (true ∷ marks) = suc (count_of marks)
count_of (false ∷ marks) = count_of marks

-- not more than there are
pub count_le : (marks : List Bool) → count_of marks ≤ length marks
unfolding count_of
count_le [] = omega arith
count_le (true ∷ marks) = let rest = count_le marks in omega arith
count_le (false ∷ marks) = let rest = count_le marks in omega arith

-- one more with a mark that was not set
pub count_set : (marks : List Bool) (j : ℕ) → j < length marks → get_or marks j false ≡ false → count_of (set marks j true) ≡ suc (count_of marks)
unfolding count_of
count_set [] j there unset = absurd (not-suc-le-zero there)
count_set (true ∷ marks) zero there unset = never (let e : true ≡ false = unset in cc)
count_set (false ∷ marks) zero there unset = refl
count_set (true ∷ marks) (suc j) there unset = ap suc (count_set marks j (omega arith) unset)
count_set (false ∷ marks) (suc j) there unset = count_set marks j (omega arith) unset

-- at least one where one is set
pub count_some : (marks : List Bool) (j : ℕ) → T (get_or marks j false) → 1 ≤ count_of marks
unfolding count_of
count_some [] j here = absurd here
count_some (true ∷ marks) j here = omega arith
count_some (false ∷ marks) zero here = absurd here
count_some (false ∷ marks) (suc j) here = count_some marks j here

-- not more than those among which they all are
pub count_among : (some all : List Bool) → ((j : ℕ) → j < length some → T (get_or some j false) → T (get_or all j false)) → count_of some ≤ count_of all
unfolding count_of
count_among [] all among = omega arith
count_among (true ∷ some) [] among = absurd (among 0 (omega arith) tt)
count_among (false ∷ some) [] among = count_among some [] (λ j h. among (suc j) (omega arith))
count_among (true ∷ some) (true ∷ all) among = let rest = count_among some all (λ j h. among (suc j) (omega arith)) in omega arith
count_among (true ∷ some) (false ∷ all) among = absurd (among 0 (omega arith) tt)
count_among (false ∷ some) (true ∷ all) among = let rest = count_among some all (λ j h. among (suc j) (omega arith)) in omega arith
count_among (false ∷ some) (false ∷ all) among = count_among some all (λ j h. among (suc j) (omega arith))

-- and if those are no more, the same
pub count_same : (some all : List Bool) → length some ≡ length all → ((j : ℕ) → j < length some → T (get_or some j false) → T (get_or all j false))
    → count_of all ≤ count_of some → some ≡ all
unfolding count_of
count_same [] [] long among many = refl
count_same [] (b ∷ all) long among many = absurd (omega arith)
count_same (b ∷ some) [] long among many = absurd (omega arith)
count_same (true ∷ some) (true ∷ all) long among many =
    ap (λ (l : List Bool). true ∷ l) (count_same some all (omega arith) (λ j h. among (suc j) (omega arith)) (omega arith))
count_same (true ∷ some) (false ∷ all) long among many = absurd (among 0 (omega arith) tt)
count_same (false ∷ some) (true ∷ all) long among many =
    let rest = count_among some all (λ j h. among (suc j) (omega arith)) in absurd (omega arith)
count_same (false ∷ some) (false ∷ all) long among many =
    ap (λ (l : List Bool). false ∷ l) (count_same some all (omega arith) (λ j h. among (suc j) (omega arith)) many)
