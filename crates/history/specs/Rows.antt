-- Laws of a step's row of results, and of the moments of a history.
use mathlib.Core.List.{List, [], ◌∷◌}
use Rattle.std.proofs.Math.Logic.{⊎_elim}
use Rattle.std.specs.Prelude.{◌≡◌, length}
use Rattle.std.proofs.Math.Path.{refl, ap}
use Rattle.std.proofs.Common.{sym, ◌∙◌, not-suc-le-zero, eq-or-lt_of_le, le_of_suc-le-suc, arith}
use Prim.Native.Nat.{ℕ, zero, suc, ◌<◌, ◌≤◌}
use Rattle.std.proofs.Math.Decide.{dec_lt}
use Rattle.std.proofs.Math.ListN.{get_or-append, get_or-eq_default}
use Rattle.std.proofs.lemmas.List.{get_or_at}
use Rattle.values.specs.declared.Outcome.{Outcome}
use Rattle.bits.specs.Lists.{length_snoc}
use Rattle.table.specs.declared.Table.{Table}
use Rattle.step.specs.Steps.{Step}
use Rattle.history.specs.History.{History, Moment, Judge, row_at, row_to, steps_of, moments_by}

module _ (by : Judge) (t : Table) (past : List Moment) (s : Step) where
  -- after k entries a row holds k results
  pub row_length : (k : ℕ) → length (row_to by t past s k) ≡ k
  unfolding row_to
  row_length zero = refl
  row_length (suc k) = length_snoc (row_to by t past s k) (by t past s (row_to by t past s k) k) ∙ ap suc (row_length k)

  -- at each place the one that was judged after those before it
  pub row_holds : (n j : ℕ) → j < n → row_at (row_to by t past s n) j ≡ by t past s (row_to by t past s j) j
  unfolding row_to
  row_holds zero j h = absurd (not-suc-le-zero h)
  row_holds (suc n) j h =
      let row = row_to by t past s n in
      let o = by t past s row n in
      ⊎_elim
      (λ (e : j ≡ n). rw e (get_or_at row o [] Outcome.Nothing n (row_length n)))
      (λ (l : j < n). get_or-append row (o ∷ []) Outcome.Nothing j (omega (arith, row_length n)) ∙ row_holds n j l)
      (eq-or-lt_of_le (le_of_suc-le-suc h))

  -- so a row that grows keeps what it holds
  pub row_stays : (k n : ℕ) → k ≤ n → (j : ℕ) → j < k → row_at (row_to by t past s n) j ≡ row_at (row_to by t past s k) j
  row_stays k n l j h = row_holds n j (omega arith) ∙ sym (row_holds k j h)

  -- and past its end holds nothing
  row_ends : (k j : ℕ) → k ≤ j → row_at (row_to by t past s k) j ≡ Outcome.Nothing
  row_ends k j l = get_or-eq_default (row_to by t past s k) Outcome.Nothing {n = j} (omega (arith, row_length k))

  -- one more result leaves the others as they are
  pub row_others : (k j : ℕ) → (j ≡ k → ⊥) → row_at (row_to by t past s k) j ≡ row_at (row_to by t past s (suc k)) j
  row_others k j apart =
      elim (dec_lt j k) [
        | yes before ↦ sym (row_stays k (suc k) (omega arith) j before)
        | no after ↦ row_ends k j (omega arith) ∙ sym (row_ends (suc k) j (omega arith))
      ]

-- the steps of a history's moments are the history
pub steps_back : (by : Judge) (t : Table) (h : History) → steps_of (moments_by by t h) ≡ h
unfolding steps_of moments_by
steps_back by t [] = refl
steps_back by t (s ∷ h) = ap (λ (r : History). s ∷ r) (steps_back by t h)
