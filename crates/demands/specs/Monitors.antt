-- Demand 1 for steps and demand 2's logic, stated over any start and step: "at every accepted step, each rule's result equals what the three-valued event and condition logic says of the whole accepted history".
use Rattle.std.specs.Prelude.{List, [], ◌∷◌, ◌≡◌, ℕ, pos, Ok, Err}
use Rattle.values.specs.declared.Number.{Number}
use Rattle.values.specs.declared.Slot.{Slot}
use Rattle.refusals.specs.declared.Refusal.{Refusal}
use Rattle.bits.specs.Reading.{Got, got, refused, answered}
use Rattle.table.specs.declared.Table.{Table}
use Rattle.table.specs.Tables.{Shaped, empty_table}
use Rattle.table.specs.Faults.{table_fault}
use Rattle.step.specs.Steps.{Step}
use Rattle.history.specs.History.{History, results_of}
use Rattle.history.specs.Offered.{offered, history_of}
use Rattle.monitor.specs.declared.Monitor.{Monitor}
use Rattle.monitor.specs.declared.Started.{Started}
use Rattle.monitor.specs.declared.Stepped.{Stepped}
use Rattle.monitor.specs.Keeping.{last_time, unsound, fresh, start_on}
use Rattle.monitor.specs.Stepping.{no_results, refused_step, step_of}
use Rattle.knowing.specs.Recalling.{slots_of}

-- a start and a step
pub record Machine : Type 0 where
  pub start : Table → Started
  pub step : Monitor → List ℕ → Stepped

-- the monitor after byte strings were offered as steps, from a fresh start; the strings stand the latest first
unfoldable pub after : Machine → Table → List (List ℕ) → Monitor
after machine t [] = (machine.start t).monitor
after machine t (bytes ∷ before) = (machine.step (after machine t before) bytes).monitor

-- the reply to a byte string that is offered after others
abbrev pub reply_to : Machine → Table → List (List ℕ) → List ℕ → Stepped
reply_to machine t before bytes = machine.step (after machine t before) bytes

-- what the definition makes of it: a step, or the refusal
abbrev pub heard : Table → List (List ℕ) → List ℕ → Got Step
heard t before bytes = offered t (history_of t before) bytes

-- what the logic says at the new step of the history; 128 times "no result" where it is refused
abbrev pub results_for : Table → History → Got Step → List Slot
results_for t h (got s end) = slots_of (results_of t (s ∷ h))
results_for t h (refused r) = no_results

-- a string is kept where it was accepted
abbrev pub kept_if : Got Step → List ℕ → List (List ℕ) → List (List ℕ)
kept_if (got s end) bytes before = bytes ∷ before
kept_if (refused r) bytes before = before

-- the strings that were accepted
unfoldable pub accepted_of : Table → List (List ℕ) → List (List ℕ)
accepted_of t [] = []
accepted_of t (bytes ∷ before) = kept_if (heard t before bytes) bytes (accepted_of t before)

-- the time of the last accepted step, undefined before any
abbrev pub last_of : History → Number
last_of [] = Number.Undefined
last_of (s ∷ h) = Number.Whole (pos s.time)

-- (a) "at every accepted step, each rule's result equals what the ... logic says of the whole accepted history"
abbrev pub SaysTheLogic : Machine → Table → Type 0
SaysTheLogic machine t = (before : List (List ℕ)) (bytes : List ℕ) → (reply_to machine t before bytes).results ≡ results_for t (history_of t before) (heard t before bytes)

-- (b) a step is accepted exactly when the definition accepts it, and its number is the definition's otherwise
abbrev pub AnswersAsDefined : Machine → Table → Type 0
AnswersAsDefined machine t = (before : List (List ℕ)) (bytes : List ℕ) → (reply_to machine t before bytes).answer ≡ answered (heard t before bytes)

-- (c) "started on a sound table it is never refused later": the monitor of a start or a step doesn't fall under 29
abbrev pub NeverUnsound : Machine → Table → Type 0
NeverUnsound machine t = (offered : List (List ℕ)) → unsound (after machine t offered) ≡ Ok tt

-- (d) "a monitor that holds that table ...; an accepted step's monitor holds the same table and that step's time as the last"
abbrev pub HoldsTableAndTime : Machine → Table → Type 0
HoldsTableAndTime machine t = (offered : List (List ℕ)) → ((after machine t offered).table ≡ t) × (last_time (after machine t offered) ≡ last_of (history_of t offered))

-- (e) "A refused step: ... the monitor exactly as it came"; the run equals the run over the accepted ones
abbrev pub RefusedChangeNothing : Machine → Table → Type 0
RefusedChangeNothing machine t = (offered : List (List ℕ)) → after machine t offered ≡ after machine t (accepted_of t offered)

-- what is asked of a machine on a sound table
pub record Knows (machine : Machine) (t : Table) : Type 0 where
  pub starts : (machine.start t).answer ≡ Ok tt
  pub results : SaysTheLogic machine t
  pub answers : AnswersAsDefined machine t
  pub sound : NeverUnsound machine t
  pub holds : HoldsTableAndTime machine t
  pub unmoved : RefusedChangeNothing machine t

-- "A start on a table at fault gives 29 and the monitor of the empty table, whose every step gives 29."
pub record Refuses (machine : Machine) (t : Table) : Type 0 where
  pub start : machine.start t ≡ record { answer = Err Refusal.Unsound; monitor = fresh empty_table }
  pub steps : (bytes : List ℕ) → machine.step (machine.start t).monitor bytes ≡ refused_step Refusal.Unsound (machine.start t).monitor

-- demand 2 for the monitor, and demand 1 for steps: every table, sound or at fault, and every list of byte strings
pub record KnowsTheHistory (machine : Machine) : Type 0 where
  pub sound : (t : Table) → Shaped t → table_fault t ≡ Ok tt → Knows machine t
  pub at_fault : (t : Table) (r : Refusal) → table_fault t ≡ Err r → Refuses machine t

-- the document's start and step; proofs/Ours.antt shows that our functions' contracts say just this
abbrev pub our_machine : Machine
our_machine = record { start = start_on; step = step_of }
