-- A table in memory: its slots, which of them are unused, and the empty table.
use Rattle.std.specs.Prelude.{Bool, true, false, cond, not, ◌||◌, ◌&&◌, List, [], ◌∷◌, ◌≡◌, ℕ, zero, suc, ◌+◌, ltb, pos, length, get_or, replicate}
use Rattle.values.specs.declared.Number.{Number}
use Rattle.values.specs.Numbers.{eq_z}
use Rattle.table.specs.declared.Sort.{Sort}
use Rattle.table.specs.declared.Entry.{Entry}
use Rattle.table.specs.declared.Table.{Table}
use Rattle.table.specs.Limits.{limits}
use Rattle.table.specs.Kinds.{Operand, entry, imported, variable, constant, operands_of, labelled}

-- a table's slots: "arrays of 128, 48 and 32"; every value of the type `Table` has them
pub record Shaped (t : Table) : Type 0 where
  pub entries : length t.entries ≡ limits.slots
  pub events : length t.events ≡ limits.imports
  pub variables : length t.variables ≡ limits.variables

-- entry k of a table; past the slots, which nothing asks for, it is the first kind
unfoldable pub entry_at : Table → ℕ → Entry
entry_at t k = get_or t.entries k (Entry.ImportedCondition 0)

-- the number in a variable's slot; past the slots, undefined
abbrev pub number_at : List Number → ℕ → Number
number_at slots x = get_or slots x Number.Undefined

-- the number that a variable starts with
unfoldable pub initial_of : Table → ℕ → Number
initial_of t x = number_at t.variables x

-- "one for each import: 1 an event, 0 a condition"
unfoldable pub is_event : Table → ℕ → Bool
is_event t i = get_or t.events i false

-- the sort of an import
unfoldable pub import_sort : Table → ℕ → Sort
import_sort t i = cond (is_event t i) Sort.Event Sort.Condition

-- "unused entry slots are the constant 0"
abbrev pub zero_constant : List Operand → Bool
zero_constant [] = false
zero_constant (entry s a ∷ rest) = false
zero_constant (imported s i ∷ rest) = false
zero_constant (variable x ∷ rest) = false
zero_constant (constant z ∷ rest) = eq_z z (pos 0)

-- "unused variable slots undefined"
abbrev pub is_undefined : Number → Bool
is_undefined Number.Undefined = true
is_undefined (Number.Whole z) = false

-- a test that holds at each slot from one number up to another
unfoldable pub every_slot : ℕ → ℕ → (ℕ → Bool) → Bool
every_slot from zero p = true
every_slot from (suc k) p = every_slot from k p && (ltb k from || p k)

-- "In a table in memory, unused entry slots are the constant 0, unused import slots conditions, unused variable slots undefined."
unfoldable pub unused_slots : Table → Bool
unused_slots t =
    every_slot t.n limits.slots (λ k. zero_constant (operands_of (entry_at t k)))
    && every_slot t.q limits.imports (λ i. not (is_event t i))
    && every_slot t.v limits.variables (λ x. is_undefined (initial_of t x))

-- "the empty table (counts 0, all slots unused)"
abbrev pub empty_table : Table
empty_table =
    record {
      n = 0;
      q = 0;
      v = 0;
      events = replicate limits.imports false;
      variables = replicate limits.variables Number.Undefined;
      entries = replicate limits.slots (Entry.Constant (pos 0));
    }

-- how many of the entries before k have a label
unfoldable pub labels_before : Table → ℕ → ℕ
labels_before t zero = 0
labels_before t (suc k) = labels_before t k + cond (labelled (entry_at t k)) 1 0
