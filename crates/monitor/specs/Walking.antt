-- The walk over the entries, as the code takes it: where an entry looks there is a slot, one entry more, and the end.
use Rattle.std.specs.Prelude.{Bool, true, false, List, ◌≡◌, ℕ, suc, ◌+◌, ◌<◌, ◌≤◌, pos, set, Ok}
use Rattle.std.proofs.Common.{sym, ap, ◌∙◌, subst, le_antisymm, add-one, arith}
use Rattle.values.specs.declared.Number.{Number}
use Rattle.values.specs.declared.Outcome.{Outcome}
use Rattle.values.specs.declared.Slot.{Slot}
use Rattle.values.specs.Outcomes.{number_in, is_done}
use Rattle.table.specs.Limits.{limits}
use Rattle.table.specs.Tables.{entry_at, number_at}
use Rattle.step.specs.declared.Taken.{Taken}
use Rattle.step.specs.Taking.{told_at, truth_at}
use Rattle.meaning.specs.declared.Places.{Places}
use Rattle.meaning.specs.Places.{places_of}
use Rattle.meaning.specs.Inside.{Inside, places_inside}
use Rattle.meaning.specs.Meaning.{meaning}
use Rattle.memory.specs.Memory.{memory_of, remember}
use Rattle.memory.specs.Recall.{givens_from}
use Rattle.monitor.specs.declared.Monitor.{Monitor}
use Rattle.monitor.specs.Keeping.{cell_at, unsound}
use Rattle.monitor.specs.Laws.{sound_of}
use Rattle.monitor.specs.Stepping.{result_in, held_after, recalled, walked, walk_to, monitor_after, advanced}

-- how far the walk has come: the entries before k are taken
pub record Come (m : Monitor) (s : Taken) (results : List Slot) (held : List Number) (cells : List ℕ) (k : ℕ) : Type 0 where
  pub slots : m.table.n ≤ limits.slots
  pub within : k ≤ m.table.n
  pub walk : record { results = results; held = held; cells = cells } ≡ walk_to m s k

-- there is a slot for every entry
pub slots_enough : (m : Monitor) → unsound m ≡ Ok tt → m.table.n ≤ limits.slots
slots_enough m good = (sound_of m good).within.entries

module _ (m : Monitor) (k : ℕ) {p : Places} (placed : p ≡ places_of (entry_at m.table k)) where
  -- where an entry looks there is a slot
  pub places_there : unsound m ≡ Ok tt → k < m.table.n → Inside p
  places_there good below =
      let sound = sound_of m good in
      let few = slots_enough m good in
      subst Inside (sym placed) (places_inside m.table sound.within k (omega arith) (entry_at m.table k) (sound.operands k below))

  module _ (s : Taken) {results : List Slot} {held : List Number} {cells : List ℕ}
      (walk : record { results = results; held = held; cells = cells } ≡ walk_to m s k) where
    -- one entry more
    pub entry_taken : {o : Outcome} {cell : ℕ} {after : List Number}
        → o ≡ meaning (entry_at m.table k) (result_in results p.first) (result_in results p.second)
        (givens_from (told_at s.told p.imported) (truth_at s.reported p.imported) (number_at held p.variable) (pos s.time) (suc s.time)
        (cell_at m k) (result_in results p.first) (result_in results p.second))
        → cell ≡ remember (memory_of (entry_at m.table k)) (result_in results p.first) (result_in results p.second) (suc s.time) (cell_at m k)
        → after ≡ held_after (is_done o) p.variable (number_in (result_in results p.second)) held
        → record { results = set results k (record { outcome = o }); held = after; cells = set cells k cell } ≡ walk_to m s (k + 1)
    unfolding walk_to walked recalled
    entry_taken said remembered changed = rw (add-one k, ← walk, changed, said, remembered, placed)

module _ (o y : Outcome) (v : ℕ) (held : List Number) {after : List Number} {d : Bool} (done : d ≡ is_done o) where
  -- "An update whose event occurs gives the variable that number"
  pub held_given : {x : Number} → d ≡ true → x ≡ number_in y → after ≡ set held v x → after ≡ held_after (is_done o) v (number_in y) held
  held_given occurs number given = rw (← done, occurs, ← number) given

  -- and nothing else changes a variable
  pub held_left : d ≡ false → after ≡ held → after ≡ held_after (is_done o) v (number_in y) held
  held_left none left = rw (← done, none) left

-- all entries are taken: the step's results, and the monitor after it
pub all_taken : (m : Monitor) (s : Taken) {results : List Slot} {held : List Number} {cells : List ℕ} (k : ℕ)
    → record { results = results; held = held; cells = cells } ≡ walk_to m s k → k ≤ m.table.n → m.table.n ≤ k
    → record {
      answer = Ok tt;
      monitor = record { table = m.table; last = s.time + 1; reported = s.reported; held = held; cells = cells };
      results = results;
    } ≡ advanced m s
unfolding advanced monitor_after
all_taken m s k walk most least = let whole = walk ∙ ap (walk_to m s) (le_antisymm most least) in rw (add-one s.time, ← whole)
