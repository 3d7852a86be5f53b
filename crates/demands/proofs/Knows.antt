-- Our start and step know the whole history: what was asked of any machine, proved of ours.
use mathlib.Core.List.{List, [], ◌∷◌}
use Rattle.std.specs.Prelude.{◌≡◌, ℕ}
use Rattle.std.proofs.Math.Path.{refl, sym, ap}
use Rattle.std.proofs.Common.{◌∙◌, Ok, Err}
use Rattle.values.specs.declared.Slot.{Slot}
use Rattle.refusals.specs.declared.Refusal.{Refusal}
use Rattle.bits.specs.Reading.{Got, got, refused}
use Rattle.table.specs.declared.Table.{Table}
use Rattle.table.specs.Tables.{Shaped, empty_table}
use Rattle.table.specs.Faults.{as_unsound, table_fault, unsound_table, the_faults}
use Rattle.step.specs.Steps.{Step}
use Rattle.history.specs.History.{History, result_at}
use Rattle.history.specs.Offered.{offered, grown, history_of}
use Rattle.memory.specs.Laws.{kept_time_lem}
use Rattle.monitor.specs.declared.Monitor.{Monitor}
use Rattle.monitor.specs.declared.Started.{Started}
use Rattle.monitor.specs.declared.Stepped.{Stepped}
use Rattle.monitor.specs.Keeping.{last_time, unsound, fresh, start_reply, start_on}
use Rattle.monitor.specs.Stepping.{result_in, refused_step, step_of}
use Rattle.knowing.specs.Recalling.{recall_of}
use Rattle.knowing.specs.Fitting.{HistoryFits}
use Rattle.knowing.proofs.Knowing.{start_recalls}
use Rattle.knowing.specs.Arriving.{history_fits}
use Rattle.knowing.proofs.Staying.{recall_sound}
use Rattle.knowing.proofs.Answering.{reply_for, reply_answer, reply_monitor, slot_result, step_answers}
use Rattle.demands.specs.Monitors.{Machine, after, reply_to, heard, results_for, kept_if, accepted_of, last_of, SaysTheLogic, Knows, Refuses, KnowsTheHistory, our_machine}

-- what a step answers to a monitor that knows history h holds the results that the logic says
reply_results : (t : Table) (h : History) (g : Got Step) → (reply_for t h g).results ≡ results_for t h g
reply_results t h (got s end) = refl
reply_results t h (refused r) = refl

-- offering the accepted strings alone leaves the same history
pub same_history : (t : Table) (offered : List (List ℕ)) → history_of t (accepted_of t offered) ≡ history_of t offered
unfolding history_of accepted_of
same_history t [] = refl
same_history t (bytes ∷ before) = by (heard t before bytes) refl (same_history t before)
  where
    by : (g : Got Step) → heard t before bytes ≡ g → history_of t (accepted_of t before) ≡ history_of t before
        → history_of t (kept_if g bytes (accepted_of t before)) ≡ grown (history_of t before) g
    by (got s end) e same = ap (λ h. grown h (offered t h bytes)) same ∙ ap (grown (history_of t before)) e
    by (refused r) e same = same

-- the empty table has no entry, so every step of its monitor gives 29
nothing_there : (bytes : List ℕ) → our_machine.step (fresh empty_table) bytes ≡ refused_step Refusal.Unsound (fresh empty_table)
unfolding step_of unsound the_faults
nothing_there bytes = refl

-- a table at fault
pub ours_at_fault : (t : Table) (r : Refusal) → table_fault t ≡ Err r → Refuses our_machine t
unfolding start_on unsound_table
ours_at_fault t r bad =
    let start : start_on t ≡ record { answer = Err Refusal.Unsound; monitor = fresh empty_table } = ap (λ a. start_reply (as_unsound a) t) bad in
    record { start = start; steps = λ bytes. ap (λ (x : Started). our_machine.step x.monitor bytes) start ∙ nothing_there bytes ∙ ap (λ (x : Started). refused_step Refusal.Unsound x.monitor) (sym start) }

module _ (t : Table) (shaped : Shaped t) (good : table_fault t ≡ Ok tt) where
  -- after any strings, the monitor is the one that the history leaves
  knows_after : (offered : List (List ℕ)) → after our_machine t offered ≡ recall_of t (history_of t offered)
  unfolding after history_of
  knows_after [] = ap (λ (x : Started). x.monitor) (start_recalls t shaped good)
  knows_after (bytes ∷ before) =
      ap (λ m. (step_of m bytes).monitor) (knows_after before)
      ∙ ap (λ (x : Stepped). x.monitor) (step_answers t shaped good before bytes)
      ∙ reply_monitor t (history_of t before) (heard t before bytes)

  -- so is the reply
  replies : (before : List (List ℕ)) (bytes : List ℕ) → reply_to our_machine t before bytes ≡ reply_for t (history_of t before) (heard t before bytes)
  replies before bytes = ap (λ m. step_of m bytes) (knows_after before) ∙ step_answers t shaped good before bytes

  knows_last : (h : History) → HistoryFits h → last_time (recall_of t h) ≡ last_of h
  unfolding recall_of
  knows_last [] fits = refl
  knows_last (s ∷ h) fits = kept_time_lem s.time fits.0.time

  knows_all : Knows our_machine t
  unfolding recall_of
  knows_all =
      record {
        starts = ap (λ (x : Started). x.answer) (start_recalls t shaped good);
        results = λ before bytes. ap (λ (x : Stepped). x.results) (replies before bytes) ∙ reply_results t (history_of t before) (heard t before bytes);
        answers = λ before bytes. ap (λ (x : Stepped). x.answer) (replies before bytes) ∙ reply_answer t (history_of t before) (heard t before bytes);
        sound = λ offered. ap unsound (knows_after offered) ∙ recall_sound t shaped good (history_of t offered) (history_fits t offered);
        holds = λ offered. (
          ap (λ (m : Monitor). m.table) (knows_after offered),
          ap last_time (knows_after offered) ∙ knows_last (history_of t offered) (history_fits t offered),
        );
        unmoved = λ offered. knows_after offered ∙ sym (ap (recall_of t) (same_history t offered)) ∙ sym (knows_after (accepted_of t offered));
      }

-- demand 2 and demand 1 for steps, of ours
pub ours_knows : KnowsTheHistory our_machine
ours_knows = record { sound = λ t shaped good. knows_all t shaped good; at_fault = ours_at_fault }

-- so the result in each slot is what the logic says of that entry at the new step
pub each_result : (machine : Machine) (t : Table) → SaysTheLogic machine t → (before : List (List ℕ)) (bytes : List ℕ) (s : Step) (end : ℕ)
    → heard t before bytes ≡ got s end → (k : ℕ) → result_in (reply_to machine t before bytes).results k ≡ result_at t (s ∷ history_of t before) k
each_result machine t says before bytes s end e k =
    let h = history_of t before in
    ap (λ (results : List Slot). result_in results k) (says before bytes ∙ ap (results_for t h) e) ∙ slot_result t (s ∷ h) k
