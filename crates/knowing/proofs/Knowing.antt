-- The monitor that is left is the one that knows the whole history: at the start, and after every accepted step.
use Rattle.std.specs.Prelude.{[], ◌∷◌, ◌++◌, ◌≡◌, refl, ℕ, suc, ◌-◌, ◌≤◌, length, replicate}
use Rattle.std.proofs.Common.{sym, ◌∙◌, ap, arith, length-append, Ok}
use Rattle.std.proofs.lemmas.List.{length-replicate, length-map}
use Rattle.std.proofs.Math.ListN.{get_or-map}
use Rattle.values.specs.declared.Truth.{Truth}
use Rattle.values.specs.declared.Number.{Number}
use Rattle.values.specs.declared.Outcome.{Outcome}
use Rattle.values.specs.declared.Slot.{Slot}
use Rattle.refusals.specs.Answers.{Answer}
use Rattle.bits.specs.Bits.{list_to}
use Rattle.bits.specs.Reading.{got}
use Rattle.table.specs.declared.Table.{Table}
use Rattle.table.specs.Limits.{limits}
use Rattle.table.specs.Tables.{Shaped, entry_at, initial_of}
use Rattle.table.specs.Faults.{table_fault, as_unsound, unsound_table}
use Rattle.table.specs.Sound.{sound_table}
use Rattle.step.specs.Steps.{Step}
use Rattle.step.specs.Taking.{taken_of}
use Rattle.history.specs.History.{History, Row, row_at, last_report, held_before, held_at, judge, row_to, moments_by, results_of}
use Rattle.monitor.specs.declared.Monitor.{Monitor}
use Rattle.monitor.specs.Keeping.{fresh, start_reply, start_on}
use Rattle.monitor.specs.Stepping.{Walk, monitor_after, advanced}
use Rattle.knowing.specs.Recalling.{left_by, recall_of, slots_of}
use Rattle.knowing.specs.Fitting.{HistoryFits}
use Rattle.bits.specs.Filled.{list_is, list_all, get_d_padded}
use Rattle.history.specs.Rows.{row_length}
use Rattle.knowing.specs.Imports.{reported_next}
use Rattle.knowing.specs.Carrying.{carries}
use Rattle.knowing.specs.Cells.{nothing_left, cells_all}
use Rattle.knowing.proofs.Walking.{walk_of, walk_to_lem}

-- "a monitor that holds that table and no accepted step yet" knows the history of no step
fresh_recalls : (t : Table) → Shaped t → fresh t ≡ recall_of t []
unfolding recall_of moments_by last_report held_before initial_of
fresh_recalls t shaped =
    let unreported : Truth = Truth.Undefined in
    let reported = list_all limits.imports (λ i. unreported) unreported (λ i l. refl) in
    let held = list_is limits.variables (λ x. (held_before t [] x)) Number.Undefined t.variables shaped.variables (λ x l. refl) in
    let cells = list_all limits.slots (λ k. left_by (entry_at t k) []) 0 (λ k l. sym (nothing_left (entry_at t k) (carries (entry_at t k)))) in
    λ i. record { table = t; last = 0; reported = reported i; held = held i; cells = cells i }

-- a start leaves the monitor that knows no step
pub start_recalls : (t : Table) → Shaped t → table_fault t ≡ Ok tt → start_on t ≡ record { answer = Ok tt; monitor = recall_of t [] }
unfolding start_on unsound_table
start_recalls t shaped good =
    ap (λ (a : Answer). start_reply (as_unsound a) t) good ∙ ap (λ (m : Monitor). record { answer = Ok tt; monitor = m }) (fresh_recalls t shaped)

-- "slots past n hold 'no result'"
results_padded : (row : Row) → length row ≤ limits.slots
    → list_to limits.slots (λ j. record { outcome = row_at row j }) ≡ slots_of (row ++ replicate (limits.slots - length row) Outcome.Nothing)
results_padded row fits =
    let slot : Outcome → Slot = λ o. record { outcome = o } in
    let none = replicate (limits.slots - length row) Outcome.Nothing in
    sym (
    list_is limits.slots (λ j. slot (row_at row j)) (slot Outcome.Nothing) (slots_of (row ++ none))
    (length-map (row ++ none) slot ∙ length-append row none ∙ omega (arith, length-replicate (limits.slots - length row) Outcome.Nothing))
    (λ j l. get_or-map slot (row ++ none) j Outcome.Nothing ∙ ap slot (get_d_padded row (limits.slots - length row) j Outcome.Nothing))
    )

-- an accepted step leaves the monitor that knows it too, and hands back what the history says
pub step_recalls : (t : Table) → Shaped t → table_fault t ≡ Ok tt → (h : History) (s : Step) (end : ℕ) → HistoryFits (s ∷ h)
    → advanced (recall_of t h) (taken_of (recall_of t h).reported (got s end))
    ≡ record { answer = Ok tt; monitor = recall_of t (s ∷ h); results = slots_of (results_of t (s ∷ h)) }
unfolding advanced monitor_after recall_of walk_of moments_by held_before held_at results_of
step_recalls t shaped good h s end fits =
    let sound = sound_table t good in
    let past = moments_by judge t h in
    let row = row_to judge t past s t.n in
    let taken = taken_of (recall_of t h).reported (got s end) in
    let walk = walk_to_lem t sound h s end fits t.n (omega arith) in
    let reported = reported_next t h s in
    let cells = cells_all t sound (moments_by judge t (s ∷ h)) past in
    let results = results_padded row (omega (arith, row_length judge t past s t.n, sound.within.entries)) in
    ap (λ (w : Walk). record { answer = Ok tt; monitor = monitor_after (recall_of t h) taken w; results = w.results }) walk
    ∙ (λ i.
    record {
      answer = Ok tt;
      monitor = record { table = t; last = suc s.time; reported = reported i; held = (recall_of t (s ∷ h)).held; cells = cells i };
      results = results i;
    })
