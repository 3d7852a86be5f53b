-- What a step tells of the imports, and the last reported values after it.
use Rattle.std.specs.Prelude.{List, ◌∷◌, ◌≡◌, refl, ℕ, ◌<◌}
use Rattle.std.proofs.Common.{◌∙◌, ap}
use Rattle.values.specs.declared.Truth.{Truth}
use Rattle.bits.specs.Lists.{get_d_list}
use Rattle.table.specs.declared.Table.{Table}
use Rattle.table.specs.Limits.{limits}
use Rattle.step.specs.declared.Told.{Told}
use Rattle.step.specs.Steps.{Report, Step, told_by}
use Rattle.step.specs.Taking.{told_at, truth_at, reported_now, told_slots, reported_after}
use Rattle.history.specs.History.{History, LastReport, reported_at, last_report, last_value}
use Rattle.knowing.specs.Recalling.{recall_of}
use Rattle.bits.specs.Filled.{list_same}

-- what was told of an import stands in its slot
pub told_known : (reports : List Report) (i : ℕ) → i < limits.imports → told_at (told_slots reports) i ≡ told_by reports i
unfolding told_slots
told_known reports i inside =
    (get_d_list limits.imports (λ j. (told_by reports j)) i Told.Nothing inside)

-- and its last reported value
pub truth_known : (t : Table) (h : History) (i : ℕ) → i < limits.imports → truth_at (recall_of t h).reported i ≡ last_value (last_report h i)
unfolding recall_of
truth_known t h i inside =
    ap (λ (slot : Truth). slot)
    (get_d_list limits.imports (λ j. (last_value (last_report h j))) i Truth.Undefined inside)

-- the last reported value is this step's, else an earlier one
value_next : (time : ℕ) (told : Told) (before : LastReport) → reported_now told (last_value before) ≡ last_value (reported_at time told before)
value_next time Told.Nothing before = refl
value_next time (Told.Condition c) before = refl
value_next time (Told.Event x) before = refl

-- so after one more step the slots hold the last reported values
pub reported_next : (t : Table) (h : History) (s : Step) → reported_after (recall_of t h).reported s.reports ≡ (recall_of t (s ∷ h)).reported
unfolding reported_after recall_of last_report
reported_next t h s =
    list_same limits.imports (λ i. (reported_now (told_by s.reports i) (truth_at (recall_of t h).reported i)))
    (λ i. (last_value (last_report (s ∷ h) i)))
    (λ i inside.
    ap (λ (c : Truth). (reported_now (told_by s.reports i) c)) (truth_known t h i inside)
    ∙ ap (λ (c : Truth). c) (value_next s.time (told_by s.reports i) (last_report h i)))
