-- "Neither falls under 29": what a history in range leaves of a sound table is sound.
use Rattle.std.specs.Prelude.{Bool, true, false, cond, List, [], ◌∷◌, ◌≡◌, ℕ, ◌<◌, ◌≤◌, ◌^◌}
use Rattle.std.proofs.Common.{◌∙◌, arith, le-leb, Ok}
use Rattle.std.proofs.Math.Path.{ap}
use Rattle.values.specs.Truths.{is_true, is_false}
use Rattle.values.specs.Numbers.{fits_n}
use Rattle.values.specs.Outcomes.{event_in}
use Rattle.bits.specs.Lists.{get_d_list}
use Rattle.values.specs.declared.Number.{Number}
use Rattle.table.specs.declared.Table.{Table}
use Rattle.table.specs.Limits.{limits}
use Rattle.table.specs.Tables.{Shaped, entry_at}
use Rattle.table.specs.Faults.{table_fault}
use Rattle.table.specs.Sound.{Sound, sound_table}
use Rattle.meaning.specs.Places.{places_of}
use Rattle.memory.specs.declared.Memory.{Memory}
use Rattle.memory.specs.Memory.{memory_of, mark}
use Rattle.history.specs.History.{History, Moment, row_at, pair_holds, condition_before, held_before, judge, moments_by}
use Rattle.history.specs.Offered.{earliest}
use Rattle.monitor.specs.Keeping.{cell_at, held_in, unsound}
use Rattle.monitor.specs.Laws.{sound_monitor}
use Rattle.knowing.specs.Recalling.{latest_kept, left, left_by, recall_of}
use Rattle.knowing.specs.Fitting.{HistoryFits}
use Rattle.knowing.proofs.Ranges.{MomentsFit, held_fits, moments_fit}

-- the kept time of the last accepted step
last_kept : (h : History) → HistoryFits h → earliest h ≤ 2 ^ 47
last_kept [] fits = omega arith
last_kept (s ∷ h) fits = omega arith

-- of two that are in range, either
either_kept : (b : Bool) (x y : ℕ) → x ≤ 2 ^ 47 → y ≤ 2 ^ 47 → cond b x y ≤ 2 ^ 47
either_kept true x y first second = first
either_kept false x y first second = second

-- the kept time of an event's latest occurrence
pub latest_kept_lem : (ms : List Moment) → MomentsFit ms → (e : ℕ) → latest_kept ms e ≤ 2 ^ 47
unfolding latest_kept
latest_kept_lem [] fits e = omega arith
latest_kept_lem (m ∷ ms) fits e = either_kept (event_in (row_at m.row e)) _ (latest_kept ms e) (omega arith) (latest_kept_lem ms fits.1 e)

-- a mark is no more than 1
mark_kept : (b : Bool) → mark b ≤ 2 ^ 47
mark_kept b = either_kept b 1 0 (omega arith) (omega arith)

-- what a cell holds
left_kept : (kept : Memory) (a b : ℕ) (past : List Moment) → MomentsFit past → left kept a b past ≤ 2 ^ 47
left_kept Memory.Nothing a b past fits = omega arith
left_kept Memory.Open a b past fits = mark_kept (pair_holds past a b)
left_kept Memory.Stood a b past fits = mark_kept (is_true (condition_before past a))
left_kept Memory.Failed a b past fits = mark_kept (is_false (condition_before past a))
left_kept Memory.Latest a b past fits = latest_kept_lem past fits a

module _ (t : Table) (shape : Shaped t) (sound : Sound t) (h : History) (fits : HistoryFits h) where
  -- a number that is held
  held_sound : (x : ℕ) → x < limits.variables → fits_n (held_in (recall_of t h) x) ≡ true
  unfolding recall_of
  held_sound x slot =
      let past = moments_by judge t h in
      ap fits_n (get_d_list limits.variables (λ v. (held_before t past v)) x _ slot)
      ∙ held_fits t shape sound past (moments_fit t shape sound h fits) x

  -- what an entry remembers
  cell_kept : (k : ℕ) → k < limits.slots → cell_at (recall_of t h) k ≤ 2 ^ 47
  unfolding recall_of left_by
  cell_kept k slot =
      let e = entry_at t k in
      let past = moments_by judge t h in
      rw (get_d_list limits.slots (λ j. left_by (entry_at t j) past) k 0 slot)
      (left_kept (memory_of e) (places_of e).first (places_of e).second past (moments_fit t shape sound h fits))

-- "Neither falls under 29": the monitor that knows a history in range, of a table without fault
pub recall_sound : (t : Table) → Shaped t → table_fault t ≡ Ok tt → (h : History) → HistoryFits h → unsound (recall_of t h) ≡ Ok tt
unfolding recall_of
recall_sound t shape good h fits =
    let sound = sound_table t good in
    sound_monitor (recall_of t h) sound
    (record {
      last = le-leb (earliest h) (2 ^ 47) (last_kept h fits);
      held = held_sound t shape sound h fits;
      cells = λ k slot. le-leb (cell_at (recall_of t h) k) (2 ^ 47) (cell_kept t shape sound h fits k slot);
    })
