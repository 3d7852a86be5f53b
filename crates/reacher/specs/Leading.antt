-- What an entry leads to, once it is taken apart: the entries that it names, and the updates of the variable that it reads.
use Rattle.std.specs.Prelude.{Bool, false, ◌≡◌, refl, ℕ, ◌<◌, T, eqb}
use mathlib.Core.List.{List, Memᴰ}
use Rattle.std.proofs.Math.Option.{Option, none, some}
use Rattle.std.proofs.Common.{eqb→eq}
use Rattle.std.proofs.Math.Dec.{eqb_refl}
use Rattle.table.specs.declared.Entry.{Entry}
use Rattle.table.specs.declared.Entry.TheVariants.{ImportedCondition, Defined, Pair, Not, Or, And, Implies, Less, Equal, ImportedEvent, Start, End, Both, Either, When, Constant, Variable, Sum, Difference, Clock, Value, Time, Update, Alarm, Property}
use Rattle.table.specs.declared.Table.{Table}
use Rattle.table.specs.Limits.{limits}
use Rattle.table.specs.Kinds.{operands_of, Change, update_of}
use Rattle.table.specs.Kinds as kinds
use Rattle.table.specs.Tables.{entry_at}
use Rattle.table.specs.Below.{either_split, either_left, either_right}
use Rattle.kinds.specs.Apart.{apart_of, first_of}
use Rattle.reach.specs.Reaching.{is_operand, is_read, reads_update, leads_to}
use Rattle.reacher.specs.Named.{variable_named, entries_named, nowhere, operand_among, among_operand, read_first, first_read}

-- what an update gives a number to
abbrev pub changes : Option Change → ℕ → Bool
changes none x = false
changes (some u) x = eqb u.variable x

-- entry o is an update of variable x
unfoldable pub updates : Table → ℕ → ℕ → Bool
updates t x o = changes (update_of (entry_at t o)) x

-- an update that is read is one of that variable
reads_changes : (os : List kinds.Operand) (u : Option Change) → T (reads_update os u)
    → T (is_read os (variable_named (first_of os))) × T (changes u (variable_named (first_of os)))
reads_changes os none is = absurd is
reads_changes os (some u) is = rw (read_first os u.variable is) (is, eqb_refl u.variable)

-- and one of the variable that is read is read
changes_reads : (os : List kinds.Operand) (u : Option Change) → variable_named (first_of os) < limits.variables → T (changes u (variable_named (first_of os)))
    → T (reads_update os u)
changes_reads os none slot is = absurd is
changes_reads os (some u) slot is = rw (eqb→eq u.variable (variable_named (first_of os)) is) (first_read os slot)

-- "22 update E, variable, N": no other kind has a variable for its second operand
update_second : (e : Entry) (x : ℕ) → x < limits.variables → changes (update_of e) x ≡ eqb (variable_named (apart_of e).second) x
unfolding update_of apart_of operands_of
update_second (ImportedCondition i) x slot = nowhere limits.variables x slot
update_second (Defined a) x slot = nowhere limits.variables x slot
update_second (Pair a b) x slot = nowhere limits.variables x slot
update_second (Not a) x slot = nowhere limits.variables x slot
update_second (Or a b) x slot = nowhere limits.variables x slot
update_second (And a b) x slot = nowhere limits.variables x slot
update_second (Implies a b) x slot = nowhere limits.variables x slot
update_second (Less a b) x slot = nowhere limits.variables x slot
update_second (Equal a b) x slot = nowhere limits.variables x slot
update_second (ImportedEvent i) x slot = nowhere limits.variables x slot
update_second (Start a) x slot = nowhere limits.variables x slot
update_second (End a) x slot = nowhere limits.variables x slot
update_second (Both a b) x slot = nowhere limits.variables x slot
update_second (Either a b) x slot = nowhere limits.variables x slot
update_second (When a b) x slot = nowhere limits.variables x slot
update_second (Constant z) x slot = nowhere limits.variables x slot
update_second (Variable y) x slot = nowhere limits.variables x slot
update_second (Sum a b) x slot = nowhere limits.variables x slot
update_second (Difference a b) x slot = nowhere limits.variables x slot
update_second Clock x slot = nowhere limits.variables x slot
update_second (Value i) x slot = nowhere limits.variables x slot
update_second (Time a) x slot = nowhere limits.variables x slot
update_second (Update a y b) x slot = refl
update_second (Alarm a) x slot = nowhere limits.variables x slot
update_second (Property a) x slot = nowhere limits.variables x slot

-- an entry is an update of the variable that its second operand names
pub update_named : (t : Table) (o x : ℕ) → x < limits.variables → updates t x o ≡ eqb (variable_named (apart_of (entry_at t o)).second) x
unfolding updates
update_named t o x slot = update_second (entry_at t o) x slot

module _ (t : Table) (j o : ℕ) where
  -- what an entry leads to is named by it, or is an update of the variable that it reads
  pub led_either : {X : Type 0} → o < limits.slots → T (leads_to t j o) → (Memᴰ o (entries_named (apart_of (entry_at t j))) → X)
      → (T (is_read (operands_of (entry_at t j)) (variable_named (apart_of (entry_at t j)).first)) → T (updates t (variable_named (apart_of (entry_at t j)).first) o) → X)
      → X
  unfolding leads_to updates apart_of
  led_either slot led operand update =
      let os = operands_of (entry_at t j) in
      either_split (is_operand os o) (reads_update os (update_of (entry_at t o))) (λ is. operand (operand_among (entry_at t j) o slot is))
      (λ is. let both = reads_changes os (update_of (entry_at t o)) is in update both.0 both.1) led

  -- it leads to what it names
  pub leads_named : o < limits.slots → Memᴰ o (entries_named (apart_of (entry_at t j))) → T (leads_to t j o)
  unfolding leads_to
  leads_named slot among = either_left (is_operand (operands_of (entry_at t j)) o) _ (among_operand (entry_at t j) o slot among)

  -- and to the updates of the variable that it reads
  pub leads_update : variable_named (apart_of (entry_at t j)).first < limits.variables → T (updates t (variable_named (apart_of (entry_at t j)).first) o)
      → T (leads_to t j o)
  unfolding leads_to updates apart_of
  leads_update slot update =
      let os = operands_of (entry_at t j) in either_right (is_operand os o) _ (changes_reads os (update_of (entry_at t o)) slot update)
