-- "The reach of an entry is the least set that holds the entry; with any entry, its operand entries; with any read of a variable, every update of that variable, wherever it stands."
use Rattle.std.specs.Prelude.{Bool, true, false, ◌&&◌, ◌||◌, List, [], ◌∷◌, ◌↔◌, ◌≡◌, refl, ℕ, ◌<◌, ◌≤◌, T, ltb, eqb, length, get_or, replicate, Ok, Err}
use Rattle.std.proofs.Math.Bool.{or-true}
use Rattle.std.proofs.Math.Option.{Option, none, some}
use Rattle.refusals.specs.declared.Refusal.{Refusal}
use Rattle.refusals.specs.Answers.{Answer}
use Rattle.refusals.specs.Numbering.{unless, and_then}
use Rattle.table.specs.declared.Entry.{Entry}
use Rattle.table.specs.declared.Table.{Table}
use Rattle.table.specs.Limits.{limits}
use Rattle.table.specs.Kinds.{Operand, entry, imported, variable, constant, kind_of, operands_of, Change, update_of}
use Rattle.table.specs.Below.{some_below}
use Rattle.table.specs.Tables.{entry_at}
use Rattle.table.specs.Faults.{unsound_table}
use Rattle.reach.specs.declared.Reach.{Reach}

-- a set of entries, by their numbers
abbrev pub Entries : Type 0
Entries = ℕ → Bool

-- "with any entry, its operand entries"
unfoldable pub is_operand : List Operand → ℕ → Bool
is_operand [] o = false
is_operand (entry s a ∷ os) o = eqb a o || is_operand os o
is_operand (imported s i ∷ os) o = is_operand os o
is_operand (variable x ∷ os) o = is_operand os o
is_operand (constant z ∷ os) o = is_operand os o

-- a read of a variable: "16 variable", the only kind whose first operand is a variable; an update is no read
unfoldable pub is_read : List Operand → ℕ → Bool
is_read [] x = false
is_read (entry s a ∷ os) x = false
is_read (imported s i ∷ os) x = false
is_read (variable y ∷ os) x = eqb y x
is_read (constant z ∷ os) x = false

-- "with any read of a variable, every update of that variable, wherever it stands"
abbrev pub reads_update : List Operand → Option Change → Bool
reads_update os none = false
reads_update os (some u) = is_read os u.variable

-- the set that holds entry j holds entry o too
unfoldable pub leads_to : Table → ℕ → ℕ → Bool
leads_to t j o = is_operand (operands_of (entry_at t j)) o || reads_update (operands_of (entry_at t j)) (update_of (entry_at t o))

-- a set that holds all that its entries lead to, under a rule of what leads to what
abbrev pub Closed : (ℕ → ℕ → Bool) → ℕ → Entries → Type 0
Closed leads n S = (j o : ℕ) → j < n → o < n → T (S j) → T (leads j o) → T (S o)

-- "the least set that holds the entry" and is closed
pub record Least (leads : ℕ → ℕ → Bool) (n k : ℕ) (S : Entries) : Type 0 where
  pub holds : T (S k)
  pub closed : Closed leads n S
  pub least : (other : Entries) → T (other k) → Closed leads n other → (j : ℕ) → j < n → T (S j) → T (other j)

-- the import that an entry names: "kind 0, 9 or 20", which alone have an import for an operand
unfoldable pub names_import : List Operand → ℕ → Bool
names_import [] i = false
names_import (entry s a ∷ os) i = false
names_import (imported s j ∷ os) i = eqb j i
names_import (variable x ∷ os) i = false
names_import (constant z ∷ os) i = false

-- "the clock exactly if the set holds kind 19 or 21"; the table decides nothing today
unfoldable pub reads_clock : Table → Entry → Bool
reads_clock t e = eqb (kind_of e) 19 || eqb (kind_of e) 21

-- "It reaches an import exactly if kind 0, 9 or 20 in the set names it"
unfoldable pub reaches_import : Table → Entries → ℕ → Bool
reaches_import t S i = some_below t.n (λ j. S j && names_import (operands_of (entry_at t j)) i)

-- "and the clock exactly if the set holds kind 19 or 21"
unfoldable pub reaches_clock : Table → Entries → Bool
reaches_clock t S = some_below t.n (λ j. S j && reads_clock t (entry_at t j))

-- the entries that a reach marks
abbrev pub marked_in : Reach → Entries
marked_in r j = get_or r.entries j false

-- "A reach shows all three: its entries, its imports and whether it has the clock."
pub record Shows (t : Table) (k : ℕ) (r : Reach) : Type 0 where
  pub slots : (length r.entries ≡ limits.slots) × (length r.imports ≡ limits.imports)
  pub entries : Least (leads_to t) t.n k (marked_in r)
  pub unused : (j : ℕ) → t.n ≤ j → marked_in r j ≡ false
  pub imports : (i : ℕ) → get_or r.imports i false ≡ reaches_import t (marked_in r) i
  pub clock : r.clock ≡ reaches_clock t (marked_in r)

-- "29 before all else in ... a reach, 30 last": "no such entry"
unfoldable pub reach_fault : Table → ℕ → Answer
reach_fault t k = and_then (unsound_table t) (unless (ltb k t.n) Refusal.NoEntry)

-- "A refused reach returns no marks."
abbrev pub no_marks : Refusal → Reach
no_marks r = record { answer = Err r; entries = replicate limits.slots false; imports = replicate limits.imports false; clock = false }

-- what a reach may answer
abbrev pub ReachReply : Table → ℕ → Answer → Reach → Type 0
ReachReply t k (Ok _) r = (r.answer ≡ Ok tt) × Shows t k r
ReachReply t k (Err f) r = r ≡ no_marks f

-- "with any entry, its operand entries"
pub leads_to_operands : (t : Table) (j o : ℕ) → is_operand (operands_of (entry_at t j)) o ≡ true → leads_to t j o ≡ true
unfolding leads_to
leads_to_operands t j o operand = rw operand refl

-- "every update of that variable, wherever it stands"
pub reads_every_update : (t : Table) (j o : ℕ) (u : Change) → is_read (operands_of (entry_at t j)) u.variable ≡ true → update_of (entry_at t o) ≡ some u
    → leads_to t j o ≡ true
unfolding leads_to
reads_every_update t j o u read update = rw (update, read) (or-true (is_operand (operands_of (entry_at t j)) o))

-- two least sets hold the same entries
pub least_same : (leads : ℕ → ℕ → Bool) (n k : ℕ) (S R : Entries) → Least leads n k S → Least leads n k R → (j : ℕ) → j < n → T (S j) ↔ T (R j)
least_same leads n k S R s r j h = (s.least R r.holds r.closed j h, r.least S s.holds s.closed j h)
