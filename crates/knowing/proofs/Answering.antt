-- What a step answers to a monitor that knows the history.
use Rattle.std.specs.Prelude.{List, ◌∷◌, ◌++◌, ◌≡◌, refl, ℕ, suc, ◌-◌, length, replicate}
use Rattle.std.proofs.Common.{◌∙◌, ap, subst, Ok}
use Rattle.std.proofs.Math.ListN.{get_or-map}
use Rattle.values.specs.declared.Outcome.{Outcome}
use Rattle.values.specs.declared.Slot.{Slot}
use Rattle.refusals.specs.Answers.{Answer}
use Rattle.bits.specs.Filled.{get_d_padded}
use Rattle.bits.specs.Reading.{Got, got, refused, answered}
use Rattle.table.specs.declared.Table.{Table}
use Rattle.table.specs.Limits.{limits}
use Rattle.table.specs.Tables.{Shaped}
use Rattle.table.specs.Faults.{table_fault}
use Rattle.step.specs.Steps.{Step}
use Rattle.step.specs.Taking.{taken_of}
use Rattle.history.specs.History.{History, judge, moments_by, latest_row, result_by, result_at, results_of}
use Rattle.history.specs.Offered.{offered, grown, history_of}
use Rattle.monitor.specs.declared.Stepped.{Stepped}
use Rattle.monitor.specs.Stepping.{result_in, refused_step, step_reply, taken_by, sound_step, step_of}
use Rattle.knowing.specs.Recalling.{recall_of, slots_of}
use Rattle.knowing.specs.Fitting.{HistoryFits}
use Rattle.knowing.proofs.Knowing.{step_recalls}
use Rattle.knowing.specs.Arriving.{history_fits}
use Rattle.knowing.proofs.Staying.{recall_sound}

-- the reply to a step, or to a refused one, by a monitor that knows history h
abbrev pub reply_for : Table → History → Got Step → Stepped
reply_for t h (got s end) = record { answer = Ok tt; monitor = recall_of t (s ∷ h); results = slots_of (results_of t (s ∷ h)) }
reply_for t h (refused r) = refused_step r (recall_of t h)

-- it answers as the definition does
pub reply_answer : (t : Table) (h : History) (g : Got Step) → (reply_for t h g).answer ≡ answered g
reply_answer t h (got s end) = refl
reply_answer t h (refused r) = refl

-- its monitor knows the history after the step
pub reply_monitor : (t : Table) (h : History) (g : Got Step) → (reply_for t h g).monitor ≡ recall_of t (grown h g)
reply_monitor t h (got s end) = refl
reply_monitor t h (refused r) = refl

-- a monitor that knows a history holds the table
pub recall_table : (t : Table) (h : History) → (recall_of t h).table ≡ t
unfolding recall_of
recall_table t h = refl

-- and the kept form of the time of the last accepted step
pub recall_last : (t : Table) (s : Step) (h : History) → (recall_of t (s ∷ h)).last ≡ suc s.time
unfolding recall_of
recall_last t s h = refl

-- the result in each slot is what the logic says of that entry
pub slot_result : (t : Table) (h : History) (k : ℕ) → result_in (slots_of (results_of t h)) k ≡ result_at t h k
unfolding result_at result_by results_of
slot_result t h k =
    let row = latest_row (moments_by judge t h) in
    let none = replicate (limits.slots - length row) Outcome.Nothing in
    let slot : Outcome → Slot = λ o. record { outcome = o } in
    ap (λ (r : Slot). r.outcome) (get_or-map slot (row ++ none) k Outcome.Nothing) ∙ get_d_padded row (limits.slots - length row) k Outcome.Nothing

-- a step that is offered to a monitor that knows the history of the strings before it
pub step_answers : (t : Table) → Shaped t → table_fault t ≡ Ok tt → (before : List (List ℕ)) (bytes : List ℕ)
    → step_of (recall_of t (history_of t before)) bytes ≡ reply_for t (history_of t before) (offered t (history_of t before) bytes)
unfolding step_of taken_by recall_of offered history_of
step_answers t shaped good before bytes =
    ap (λ (a : Answer). sound_step a (recall_of t h) bytes) (recall_sound t shaped good h (history_fits t before)) ∙ by (offered t h bytes) refl
  where
    h : History
    h = history_of t before

    by : (g : Got Step) → offered t h bytes ≡ g → step_reply (taken_of (recall_of t h).reported g).answer (recall_of t h) (taken_of (recall_of t h).reported g) ≡ reply_for t h g
    by (got s end) e = step_recalls t shaped good h s end (subst HistoryFits (ap (grown h) e) (history_fits t (bytes ∷ before)))
    by (refused r) e = refl
