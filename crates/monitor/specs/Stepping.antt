-- One step of a monitor, from what it keeps.
use Rattle.std.specs.Prelude.{Bool, cond, List, ℕ, zero, suc, pos, get_or, set, replicate, Result, Ok, Err}
use Rattle.values.specs.declared.Number.{Number}
use Rattle.values.specs.declared.Outcome.{Outcome}
use Rattle.values.specs.declared.Slot.{Slot}
use Rattle.values.specs.Outcomes.{number_in, is_done}
use Rattle.refusals.specs.declared.Refusal.{Refusal}
use Rattle.refusals.specs.Answers.{Answer}
use Rattle.table.specs.Limits.{limits}
use Rattle.table.specs.Tables.{entry_at, number_at}
use Rattle.step.specs.declared.Taken.{Taken}
use Rattle.step.specs.Reader.{read_step}
use Rattle.step.specs.Taking.{told_at, truth_at, told_slots, reported_after, taken_of}
use Rattle.meaning.specs.declared.Givens.{Givens}
use Rattle.meaning.specs.Places.{places_of}
use Rattle.meaning.specs.Meaning.{meaning, the_meaning}
use Rattle.memory.specs.Memory.{memory_of, remember}
use Rattle.memory.specs.Recall.{givens_from}
use Rattle.monitor.specs.declared.Monitor.{Monitor}
use Rattle.monitor.specs.declared.Stepped.{Stepped}
use Rattle.monitor.specs.Keeping.{cell_at, unsound}

-- a walk over the entries: the results so far, what the variables hold, and what the entries remember
pub record Walk : Type 0 where
  pub results : List Slot
  pub held : List Number
  pub cells : List ℕ

-- the result of entry k in the slots
abbrev pub result_in : List Slot → ℕ → Outcome
result_in results k = (get_or results k (record { outcome = Outcome.Nothing })).outcome

-- "An update whose event occurs gives the variable that number"
abbrev pub held_after : Bool → ℕ → Number → List Number → List Number
held_after done v number held = cond done (set held v number) held

-- what entry k looks at besides the results of its operand entries
unfoldable pub recalled : Monitor → Taken → Walk → ℕ → Givens
recalled m s w k =
    let places = places_of (entry_at m.table k) in
    givens_from (told_at s.told places.imported) (truth_at s.reported places.imported) (number_at w.held places.variable) (pos s.time) (suc s.time)
    (cell_at m k) (result_in w.results places.first) (result_in w.results places.second)

-- entry k: its result, and what it changes
unfoldable pub walked : Monitor → Taken → ℕ → Walk → Walk
walked m s k w =
    let e = entry_at m.table k in
    let x = result_in w.results (places_of e).first in
    let y = result_in w.results (places_of e).second in
    let o = meaning e x y (recalled m s w k) in
    record {
      results = set w.results k (record { outcome = o });
      held = held_after (is_done o) (places_of e).variable (number_in y) w.held;
      cells = set w.cells k (remember (memory_of e) x y (suc s.time) (cell_at m k));
    }

-- 128 times "no result"
abbrev pub no_results : List Slot
no_results = replicate limits.slots (record { outcome = Outcome.Nothing })

-- "Entries are taken in script order within a step."
unfoldable pub walk_to : Monitor → Taken → ℕ → Walk
walk_to m s zero = record { results = no_results; held = m.held; cells = m.cells }
walk_to m s (suc k) = walked m s k (walk_to m s k)

-- the monitor after an accepted step: "the same table and that step's time as the last"
unfoldable pub monitor_after : Monitor → Taken → Walk → Monitor
monitor_after m s w = record { table = m.table; last = suc s.time; reported = s.reported; held = w.held; cells = w.cells }

-- an accepted step
unfoldable pub advanced : Monitor → Taken → Stepped
advanced m s =
    let w = walk_to m s m.table.n in
    record { answer = Ok tt; monitor = monitor_after m s w; results = w.results }

-- "A refused step returns the monitor unchanged and 128 times 'no result'."
abbrev pub refused_step : Refusal → Monitor → Stepped
refused_step r m = record { answer = Err r; monitor = m; results = no_results }

-- a step that is taken, or the refusal
abbrev pub stepped_from : Monitor → Result Stepped Refusal → Stepped
stepped_from m (Ok stepped) = stepped
stepped_from m (Err r) = refused_step r m

-- a step that was read is taken; one that was refused changes nothing
abbrev pub step_reply : Answer → Monitor → Taken → Stepped
step_reply (Ok _) m s = advanced m s
step_reply (Err r) m s = refused_step r m

-- what is taken from the bytes of a step, by the table and by what is kept
unfoldable pub taken_by : Monitor → List ℕ → Taken
taken_by m bytes = taken_of m.reported (read_step m.table m.last bytes 0)

-- "29 before all else in a step"
abbrev pub sound_step : Answer → Monitor → List ℕ → Stepped
sound_step (Ok _) m bytes = step_reply (taken_by m bytes).answer m (taken_by m bytes)
sound_step (Err r) m bytes = refused_step r m

-- what a step answers
unfoldable pub step_of : Monitor → List ℕ → Stepped
step_of m bytes = sound_step (unsound m) m bytes

-- names all that a step is computed with: an example says `unfolding the_stepping`
unfoldable pub the_stepping : Unit {0}
unfolding told_slots reported_after the_meaning memory_of recalled walked walk_to monitor_after advanced taken_by step_of
the_stepping = tt
