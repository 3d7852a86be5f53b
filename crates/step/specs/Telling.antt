-- What is told with one report more: of its import what it says, of every other what was told before.
use Rattle.std.specs.Prelude.{List, [], ◌∷◌, ◌++◌, ◌≡◌, refl, ℕ, length, set, replicate}
use Rattle.std.proofs.Common.{sym, ne_eqb}
use Rattle.std.proofs.Math.Path.{ap}
use Rattle.values.specs.declared.Truth.{Truth}
use Rattle.bits.specs.Filled.{list_is, list_all, list_set}
use Rattle.table.specs.Limits.{limits}
use Rattle.step.specs.declared.Told.{Told}
use Rattle.step.specs.Steps.{Report, told_by}
use Rattle.step.specs.Taking.{truth_at, reported_now, told_slots, reported_after}

-- a report of another import
told_other : (rs : List Report) (r : Report) (i : ℕ) → (r.imported ≡ i → ⊥) → told_by (rs ++ (r ∷ [])) i ≡ told_by rs i
unfolding told_by
told_other [] r i other = rw (ne_eqb r.imported i other)
told_other (x ∷ rs) r i other = rw (told_other rs r i other)

-- before any report nothing is told
pub told_none : told_slots [] ≡ replicate limits.imports Told.Nothing
unfolding told_slots told_by
told_none = sym (list_all limits.imports _ Told.Nothing (λ i slot. refl))

-- and the reported values are as they were
pub reported_none : (before : List Truth) → length before ≡ limits.imports → reported_after before [] ≡ before
unfolding reported_after told_by
reported_none before full =
    sym (list_is limits.imports (λ i. (truth_at before i)) Truth.Undefined before full (λ i h. refl))

module _ (sofar : List Report) (r : Report) (first : told_by (sofar ++ (r ∷ [])) r.imported ≡ r.told) where
  -- what is told, with the first report of an import
  pub told_more : set (told_slots sofar) r.imported r.told ≡ told_slots (sofar ++ (r ∷ []))
  unfolding told_slots
  told_more =
      list_set limits.imports _ (λ i. (told_by (sofar ++ (r ∷ [])) i)) r.imported _
      (λ slot. ap (λ (x : Told). x) (sym first))
      (λ j slot other. ap (λ (x : Told). x) (sym (told_other sofar r j (λ e. other (sym e)))))

  -- the reported values, with the first report of an import
  pub reported_more : (before : List Truth)
      → set (reported_after before sofar) r.imported (reported_now r.told (truth_at before r.imported))
      ≡ reported_after before (sofar ++ (r ∷ []))
  unfolding reported_after
  reported_more before =
      list_set limits.imports _
      (λ i. (reported_now (told_by (sofar ++ (r ∷ [])) i) (truth_at before i))) r.imported _
      (λ slot. ap (λ (x : Told). (reported_now x (truth_at before r.imported))) (sym first))
      (λ j slot other. ap (λ (x : Told). (reported_now x (truth_at before j))) (sym (told_other sofar r j (λ e. other (sym e)))))
