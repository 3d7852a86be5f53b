-- A table of which every slot is in order has no fault.
use Rattle.std.specs.Prelude.{Bool, true, false, not, ◌||◌, ◌≡◌, refl, ℕ, zero, suc, ◌<◌, ◌≤◌, ltb, pos}
use Rattle.std.proofs.Common.{arith, ltb-false}
use Rattle.values.specs.declared.Number.{Number}
use Rattle.table.specs.declared.Entry.{Entry}
use Rattle.table.specs.declared.Table.{Table}
use Rattle.table.specs.Limits.{limits}
use Rattle.table.specs.Kinds.{operands_of}
use Rattle.table.specs.Tables.{entry_at, is_event, initial_of, zero_constant, is_undefined, every_slot, unused_slots}

-- a test that holds at each slot from one number up to another
pub every_slot_lem : (from to : ℕ) (p : ℕ → Bool) → ((k : ℕ) → from ≤ k → k < to → p k ≡ true) → every_slot from to p ≡ true
unfolding every_slot
every_slot_lem from zero p each = refl
every_slot_lem from (suc k) p each = rw (every_slot_lem from k p (λ j late early. each j late (omega arith))) (by_test (ltb k from) refl)
  where
    by_test : (b : Bool) → ltb k from ≡ b → (b || p k) ≡ true
    by_test true e = refl
    by_test false e = each k (ltb-false k from e) (omega arith)

-- "unused entry slots are the constant 0, unused import slots conditions, unused variable slots undefined"
pub unused_slots_lem : (t : Table) → ((j : ℕ) → t.n ≤ j → j < limits.slots → entry_at t j ≡ Entry.Constant (pos 0))
    → ((j : ℕ) → t.q ≤ j → is_event t j ≡ false) → ((j : ℕ) → t.v ≤ j → initial_of t j ≡ Number.Undefined) → unused_slots t ≡ true
unfolding unused_slots operands_of
unused_slots_lem t no_entry_lem no_import no_number =
    rw (
      every_slot_lem t.n limits.slots (λ k. zero_constant (operands_of (entry_at t k))) (λ k late early. rw (no_entry_lem k late early)),
      every_slot_lem t.q limits.imports (λ i. not (is_event t i)) (λ i late early. rw (no_import i late)),
      every_slot_lem t.v limits.variables (λ x. is_undefined (initial_of t x)) (λ x late early. rw (no_number x late)),
    )
