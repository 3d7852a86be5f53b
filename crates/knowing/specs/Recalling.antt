-- The monitor that a history leaves, from the history alone.
use Rattle.std.specs.Prelude.{cond, List, [], ◌∷◌, map, ℕ, suc}
use Rattle.values.specs.declared.Outcome.{Outcome}
use Rattle.values.specs.declared.Slot.{Slot}
use Rattle.values.specs.Truths.{is_true, is_false}
use Rattle.values.specs.Outcomes.{event_in}
use Rattle.bits.specs.Bits.{list_to}
use Rattle.table.specs.declared.Entry.{Entry}
use Rattle.table.specs.declared.Table.{Table}
use Rattle.table.specs.Limits.{limits}
use Rattle.table.specs.Tables.{entry_at}
use Rattle.meaning.specs.Places.{places_of}
use Rattle.memory.specs.declared.Memory.{Memory}
use Rattle.memory.specs.Memory.{memory_of, mark}
use Rattle.history.specs.History.{History, Moment, row_at, last_report, last_value, pair_holds, condition_before, held_before, judge, moments_by}
use Rattle.history.specs.Offered.{earliest}
use Rattle.monitor.specs.declared.Monitor.{Monitor}

-- the kept form of the time of an event's latest occurrence: one more than the time, and 0 before any
unfoldable pub latest_kept : List Moment → ℕ → ℕ
latest_kept [] e = 0
latest_kept (m ∷ ms) e = cond (event_in (row_at m.row e)) (suc m.step.time) (latest_kept ms e)

-- what a cell holds after these moments, by what its entry remembers of its first and second operand entry
abbrev pub left : Memory → ℕ → ℕ → List Moment → ℕ
left Memory.Nothing a b past = 0
left Memory.Open a b past = mark (pair_holds past a b)
left Memory.Stood a b past = mark (is_true (condition_before past a))
left Memory.Failed a b past = mark (is_false (condition_before past a))
left Memory.Latest a b past = latest_kept past a

-- what an entry's cell holds after these moments
unfoldable pub left_by : Entry → List Moment → ℕ
left_by e past = left (memory_of e) (places_of e).first (places_of e).second past

-- the monitor that knows this history of this table
unfoldable pub recall_of : Table → History → Monitor
recall_of t h =
    let past = moments_by judge t h in
    record {
      table = t;
      last = earliest h;
      reported = list_to limits.imports (λ i. (last_value (last_report h i)));
      held = list_to limits.variables (λ v. (held_before t past v));
      cells = list_to limits.slots (λ k. left_by (entry_at t k) past);
    }

-- results in the slots of a step's reply
abbrev pub slots_of : List Outcome → List Slot
slots_of = map (λ o. record { outcome = o })
