-- What the cells hold after one more step.
use Rattle.std.specs.Prelude.{Bool, true, false, cond, List, [], ◌∷◌, ◌≡◌, refl, ℕ, suc, ◌<◌, ◌≤◌, ltb, set, Ok}
use Rattle.std.proofs.Common.{sym, ◌∙◌, ap, arith, lt-ltb, le-ltb}
use Rattle.std.proofs.Math.Decide.{dec_lt}
use Rattle.replies.specs.Plain.{never, both_true}
use Rattle.values.specs.declared.Outcome.{Outcome}
use Rattle.values.specs.Truths.{is_true, is_false}
use Rattle.values.specs.Outcomes.{condition_in, event_in}
use Rattle.bits.specs.Bits.{list_to}
use Rattle.table.specs.declared.Entry.{Entry}
use Rattle.table.specs.declared.Entry.TheVariants.{Pair, Start, End, Time}
use Rattle.table.specs.declared.Table.{Table}
use Rattle.table.specs.Limits.{limits}
use Rattle.table.specs.Kinds.{operands_of}
use Rattle.table.specs.Tables.{entry_at, zero_constant, every_slot, unused_slots}
use Rattle.table.specs.Faults.{operands_fault}
use Rattle.table.specs.Below.{some_below}
use Rattle.table.specs.Sound.{Sound}
use Rattle.sound.specs.Slots.{slot_fails}
use Rattle.meaning.specs.Places.{places_of}
use Rattle.meaning.specs.Inside.{entries_earlier}
use Rattle.memory.specs.declared.Memory.{Memory}
use Rattle.memory.specs.Memory.{memory_of, mark, marked, open_now, remember}
use Rattle.memory.specs.Laws.{marked_mark}
use Rattle.history.specs.History.{Moment, Row, row_at, pair_holds}
use Rattle.history.specs.Pairs.{pair_next}
use Rattle.knowing.specs.Recalling.{latest_kept, left_by}
use Rattle.bits.specs.Filled.{list_same, list_set}
use Rattle.knowing.specs.Carrying.{Carries, a_pair, a_start, an_end, a_time, an_update_lem, other, carries}

-- before the first step no cell holds anything
pub nothing_left : (e : Entry) → Carries e → left_by e [] ≡ 0
unfolding left_by memory_of latest_kept pair_holds some_below
nothing_left e (a_pair a b) = refl
nothing_left e (a_start a) = refl
nothing_left e (an_end a) = refl
nothing_left e (a_time a) = refl
nothing_left e (an_update_lem a v b) = refl
nothing_left e (other nothing no-update undone looks) = rw nothing

-- the pair after one more step, from the mark that it left
pub open_next : (m : Moment) (past : List Moment) (a b : ℕ)
    → open_now (marked (mark (pair_holds past a b))) (event_in (row_at m.row a)) (event_in (row_at m.row b)) ≡ pair_holds (m ∷ past) a b
open_next m past a b =
    ap (λ (o : Bool). open_now o (event_in (row_at m.row a)) (event_in (row_at m.row b))) (marked_mark (pair_holds past a b))
    ∙ sym (pair_next m past a b)

-- what an entry remembers of its operands' results is what the whole step leaves: its operands stand earlier
pub left_next : (t : Table) (k : ℕ) (e : Entry) → Carries e → operands_fault t k (operands_of e) ≡ Ok tt
    → (row : Row) (m : Moment) (past : List Moment) → ((j : ℕ) → j < k → row_at m.row j ≡ row_at row j)
    → remember (memory_of e) (row_at row (places_of e).first) (row_at row (places_of e).second) (suc m.step.time) (left_by e past) ≡ left_by e (m ∷ past)
unfolding left_by memory_of operands_of places_of latest_kept
left_next t k e (a_pair a b) good row m past stays =
    let first = stays a (entries_earlier t k (operands_of (Pair a b)) good 0 (omega arith)) in
    let second = stays b (entries_earlier t k (operands_of (Pair a b)) good 1 (omega arith)) in
    rw (← first, ← second) (ap mark (open_next m past a b))
left_next t k e (a_start a) good row m past stays =
    ap (λ (o : Outcome). mark (is_true (condition_in o))) (sym (stays a (entries_earlier t k (operands_of (Start a)) good 0 (omega arith))))
left_next t k e (an_end a) good row m past stays =
    ap (λ (o : Outcome). mark (is_false (condition_in o))) (sym (stays a (entries_earlier t k (operands_of (End a)) good 0 (omega arith))))
left_next t k e (a_time a) good row m past stays =
    ap (λ (o : Outcome). cond (event_in o) (suc m.step.time) (latest_kept past a))
    (sym (stays a (entries_earlier t k (operands_of (Time a)) good 0 (omega arith))))
left_next t k e (an_update_lem a v b) good row m past stays = refl
left_next t k e (other nothing no-update undone looks) good row m past stays = rw nothing

-- the cell of entry j, where the first k entries know this step and the others do not yet
abbrev pub left_to : Table → List Moment → List Moment → ℕ → ℕ → ℕ
left_to t now past k j = left_by (entry_at t j) (cond (ltb j k) now past)

-- at first none does
pub cells_start : (t : Table) (n : ℕ) (now past : List Moment) → list_to n (λ j. left_by (entry_at t j) past) ≡ list_to n (left_to t now past 0)
cells_start t n now past = list_same n (λ j. left_by (entry_at t j) past) (left_to t now past 0) (λ j h. rw (le-ltb j 0 (omega arith)))

-- one more
pub cells_next : (t : Table) (n k : ℕ) (now past : List Moment) (cell : ℕ) → cell ≡ left_by (entry_at t k) now
    → set (list_to n (left_to t now past k)) k cell ≡ list_to n (left_to t now past (suc k))
cells_next t n k now past cell here =
    list_set n (left_to t now past k) (left_to t now past (suc k)) k cell
    (λ h. rw (lt-ltb k (suc k) (omega arith)) here)
    (λ j h apart.
    elim (dec_lt j k) [
      | yes before ↦ rw (lt-ltb j k before, lt-ltb j (suc k) (omega arith))
      | no after ↦ rw (le-ltb j k (omega arith), le-ltb j (suc k) (omega arith))
    ])

-- a test that every slot passes, at one of them
slot_passes : (from to : ℕ) (p : ℕ → Bool) → every_slot from to p ≡ true → (k : ℕ) → from ≤ k → k < to → p k ≡ true
slot_passes from to p every k after slot = holds (p k) (λ bad. never (sym (slot_fails from to p k slot after bad) ∙ every))
  where
    holds : (b : Bool) → (b ≡ false → b ≡ true) → b ≡ true
    holds true otherwise = refl
    holds false otherwise = otherwise refl

-- "unused entry slots are the constant 0", which remembers nothing
constant_forgets : (e : Entry) → Carries e → zero_constant (operands_of e) ≡ true → memory_of e ≡ Memory.Nothing
unfolding operands_of memory_of
constant_forgets e (a_pair a b) unused = never unused
constant_forgets e (a_start a) unused = never unused
constant_forgets e (an_end a) unused = never unused
constant_forgets e (a_time a) unused = never unused
constant_forgets e (an_update_lem a v b) unused = refl
constant_forgets e (other nothing no-update undone looks) unused = nothing

-- so the cells past the last entry stay as they are
unused_same : (t : Table) → Sound t → (k : ℕ) → t.n ≤ k → k < limits.slots → (now past : List Moment)
    → left_by (entry_at t k) past ≡ left_by (entry_at t k) now
unfolding left_by unused_slots
unused_same t sound k after slot now past =
    let e = entry_at t k in
    let unused : ℕ → Bool = λ j. zero_constant (operands_of (entry_at t j)) in
    let every = (both_true _ _ (both_true _ _ sound.unused).0).0 in
    rw (constant_forgets e (carries e) (slot_passes t.n limits.slots unused every k after slot))

-- after the last entry every cell knows this step
pub cells_all : (t : Table) → Sound t → (now past : List Moment)
    → list_to limits.slots (left_to t now past t.n) ≡ list_to limits.slots (λ j. left_by (entry_at t j) now)
cells_all t sound now past =
    list_same limits.slots (left_to t now past t.n) (λ j. left_by (entry_at t j) now)
    (λ j slot.
    elim (dec_lt j t.n) [
      | yes before ↦ rw (lt-ltb j t.n before)
      | no after ↦ rw (le-ltb j t.n (omega arith)) (unused_same t sound j (omega arith) slot now past)
    ])
