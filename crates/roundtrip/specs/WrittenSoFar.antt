-- A table as far as it has been read: its first imports, variables and entries, and unused slots after them.
use Rattle.std.specs.Prelude.{Bool, true, false, not, ◌&&◌, ◌||◌, cond, ◌≡◌, refl, ℕ, zero, suc, ◌<◌, ◌≤◌, ltb, ℤ, pos, negsuc}
use Rattle.std.proofs.Common.{⊎_elim, sym, ap, subst, not-suc-le-zero, eq-or-lt_of_le, le_of_suc-le-suc, arith, ltb-true, eqb-true, le-ltb}
use Rattle.std.proofs.lemmas.Bool.{not-true}
use Rattle.values.specs.declared.Number.{Number}
use Rattle.values.specs.Numbers.{eq_z}
use Rattle.refusals.specs.declared.Refusal.{Refusal}
use Rattle.refusals.specs.Answers.{Answer}
use Rattle.refusals.specs.Numbering.{unless, and_then}
use Rattle.table.specs.declared.Sort.{Sort}
use Rattle.table.specs.declared.Entry.{Entry}
use Rattle.table.specs.declared.Entry.TheVariants.{ImportedCondition, Defined, Pair, Not, Or, And, Implies, Less, Equal, ImportedEvent, Start, End, Both, Either, When, Constant, Variable, Sum, Difference, Clock, Value, Time, Update, Alarm, Property}
use Rattle.table.specs.declared.Table.{Table}
use Rattle.table.specs.Limits.{limits}
use Rattle.table.specs.Kinds.{Operand, entry, imported, variable, constant, operands_of, sort_of, same_sort}
use Rattle.table.specs.Tables.{Shaped, entry_at, is_event, import_sort, initial_of, zero_constant, is_undefined, every_slot, unused_slots}
use Rattle.table.specs.Faults.{operand_fault}
use Rattle.script.specs.Reader.{with_event, with_variable, with_entry}
use Rattle.replies.specs.Plain.{never, both_true}
use Rattle.roundtrip.specs.WrittenSlots.{filled, filled_next, filled_same, filled_all}
use Rattle.table.specs.Sound.{Within}

-- an unused entry slot
abbrev pub no_entry : Entry
no_entry = (Entry.Constant (pos 0))

-- and an unused variable slot
abbrev pub no_number : Number
no_number = Number.Undefined

-- the first i imports, x variables and k entries
abbrev pub so_far : Table → ℕ → ℕ → ℕ → Table
so_far t i x k =
    record {
      n = t.n;
      q = t.q;
      v = t.v;
      events = filled limits.imports false i t.events;
      variables = filled limits.variables no_number x t.variables;
      entries = filled limits.slots no_entry k t.entries;
    }

-- one more import
pub so_far_import : (t : Table) → Shaped t → (i x k : ℕ) → i < limits.imports → with_event (so_far t i x k) i (is_event t i) ≡ so_far t (suc i) x k
unfolding is_event
so_far_import t shape i x k h = rw (filled_next limits.imports false t.events i false shape.events h)

-- one more variable
pub so_far_variable : (t : Table) → Shaped t → (i x k : ℕ) → x < limits.variables
    → with_variable (so_far t i x k) x (initial_of t x) ≡ so_far t i (suc x) k
unfolding initial_of
so_far_variable t shape i x k h = rw (filled_next limits.variables no_number t.variables x no_number shape.variables h)

-- one more entry
pub so_far_entry : (t : Table) → Shaped t → (i x k : ℕ) → k < limits.slots → with_entry (so_far t i x k) k (entry_at t k) ≡ so_far t i x (suc k)
unfolding entry_at
so_far_entry t shape i x k h =
    rw (filled_next limits.slots no_entry t.entries k (Entry.ImportedCondition 0) shape.entries h)

-- an entry that was read
pub so_far_entry_at : (t : Table) → Shaped t → (i x k a : ℕ) → k ≤ limits.slots → a < k → entry_at (so_far t i x k) a ≡ entry_at t a
unfolding entry_at
so_far_entry_at t shape i x k a h before =
    ap (λ (e : Entry). e)
    (filled_same limits.slots no_entry t.entries k a (Entry.ImportedCondition 0) (omega (arith, shape.entries)) before)

-- an import that was read
pub so_far_is_event : (t : Table) → Shaped t → (i x k j : ℕ) → i ≤ limits.imports → j < i → is_event (so_far t i x k) j ≡ is_event t j
unfolding is_event
so_far_is_event t shape i x k j h before =
    rw (filled_same limits.imports false t.events i j false (omega (arith, shape.events)) before)

-- an answer to what is asked only after a test
guarded : (b : Bool) (r : Refusal) (x y : Answer) → (b ≡ true → x ≡ y) → and_then (unless b r) x ≡ and_then (unless b r) y
guarded true r x y same = same refl
guarded false r x y same = refl

-- an operand names what was read already, so that its fault is known
pub so_far_operand : (t : Table) → Shaped t → Within t → (x k : ℕ) → k ≤ limits.slots → (o : Operand)
    → operand_fault (so_far t t.q x k) k o ≡ operand_fault t k o
unfolding operand_fault import_sort
so_far_operand t shape within x k h (entry s a) =
    guarded (ltb a k) Refusal.Operand _ _
    (λ early. ap (λ (e : Entry). unless (same_sort (sort_of e) s) Refusal.Sort) (so_far_entry_at t shape t.q x k a h (ltb-true a k early)))
so_far_operand t shape within x k h (imported s i) =
    guarded (ltb i t.q) Refusal.Operand _ _
    (λ there. ap (λ (b : Bool). unless (same_sort (cond b Sort.Event Sort.Condition) s) Refusal.Sort)
    (so_far_is_event t shape t.q x k i within.imports (ltb-true i t.q there)))
so_far_operand t shape within x k h (variable y) = refl
so_far_operand t shape within x k h (constant z) = refl

-- of every slot, one
every_slot_lem : (from n : ℕ) (p : ℕ → Bool) → every_slot from n p ≡ true → (k : ℕ) → from ≤ k → k < n → p k ≡ true
unfolding every_slot
every_slot_lem from zero p all k low high = absurd (not-suc-le-zero high)
every_slot_lem from (suc n) p all k low high =
    ⊎_elim (λ last. subst (λ (j : ℕ). p j ≡ true) (sym last)
    (rw (le-ltb n from (omega arith)) at (both_true (every_slot from n p) (ltb n from || p n) all).1))
    (λ before. every_slot_lem from n p (both_true (every_slot from n p) (ltb n from || p n) all).0 k low before)
    (eq-or-lt_of_le (le_of_suc-le-suc high))

-- no number but 0 is the same as 0
zero_number : (z : ℤ) → eq_z z (pos 0) ≡ true → z ≡ pos 0
zero_number (pos n) same = ap pos (eqb-true n 0 same)
zero_number (negsuc n) same = never same

-- "unused entry slots are the constant 0"
zero_entry : (e : Entry) → zero_constant (operands_of e) ≡ true → e ≡ Constant (pos 0)
unfolding operands_of
zero_entry (ImportedCondition i) unused = never unused
zero_entry (Defined a) unused = never unused
zero_entry (Pair a b) unused = never unused
zero_entry (Not a) unused = never unused
zero_entry (Or a b) unused = never unused
zero_entry (And a b) unused = never unused
zero_entry (Implies a b) unused = never unused
zero_entry (Less a b) unused = never unused
zero_entry (Equal a b) unused = never unused
zero_entry (ImportedEvent i) unused = never unused
zero_entry (Start a) unused = never unused
zero_entry (End a) unused = never unused
zero_entry (Both a b) unused = never unused
zero_entry (Either a b) unused = never unused
zero_entry (When a b) unused = never unused
zero_entry (Constant z) unused = ap Constant (zero_number z unused)
zero_entry (Variable x) unused = never unused
zero_entry (Sum a b) unused = never unused
zero_entry (Difference a b) unused = never unused
zero_entry Clock unused = never unused
zero_entry (Value i) unused = never unused
zero_entry (Time a) unused = never unused
zero_entry (Update a x b) unused = never unused
zero_entry (Alarm a) unused = never unused
zero_entry (Property a) unused = never unused

-- "unused variable slots undefined"
undefined_number : (y : Number) → is_undefined y ≡ true → y ≡ Number.Undefined
undefined_number Number.Undefined unused = refl
undefined_number (Number.Whole z) unused = never unused

-- unused slots as they should be
record Unused (t : Table) : Type 0 where
  entries : (k : ℕ) → t.n ≤ k → k < limits.slots → entry_at t k ≡ Constant (pos 0)
  events : (i : ℕ) → t.q ≤ i → i < limits.imports → is_event t i ≡ false
  variables : (x : ℕ) → t.v ≤ x → x < limits.variables → initial_of t x ≡ Number.Undefined

unused_slots_lem : (t : Table) → unused_slots t ≡ true → Unused t
unfolding unused_slots
unused_slots_lem t unused =
    let entries = every_slot t.n limits.slots (λ k. zero_constant (operands_of (entry_at t k))) in
    let events = every_slot t.q limits.imports (λ i. not (is_event t i)) in
    let variables = every_slot t.v limits.variables (λ x. is_undefined (initial_of t x)) in
    let two = (both_true (entries && events) variables unused).0 in
    record {
      entries = λ k low high. zero_entry (entry_at t k) (every_slot_lem t.n limits.slots _ (both_true entries events two).0 k low high);
      events = λ i low high. not-true (is_event t i) (every_slot_lem t.q limits.imports _ (both_true entries events two).1 i low high);
      variables = λ x low high.
          undefined_number (initial_of t x) (every_slot_lem t.v limits.variables _ (both_true (entries && events) variables unused).1 x low high);
    }

-- once every count is reached, all of the table was read
pub so_far_all : (t : Table) → Shaped t → unused_slots t ≡ true → so_far t t.q t.v t.n ≡ t
unfolding entry_at is_event initial_of
so_far_all t shape unused =
    let slots = unused_slots_lem t unused in
    rw (
      filled_all limits.imports false t.events t.q false shape.events slots.events,
      filled_all limits.variables no_number t.variables t.v no_number shape.variables
          (λ x low high. ap (λ (y : Number). y) (slots.variables x low high)),
      filled_all limits.slots no_entry t.entries t.n (Entry.ImportedCondition 0) shape.entries
          (λ k low high. ap (λ (e : Entry). e) (slots.entries k low high)),
    )
