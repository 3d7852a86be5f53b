-- What an entry has to remember from one step to the next, in a cell of its own.
use Rattle.std.specs.Prelude.{Bool, cond, not, ◌&&◌, ◌||◌, ℕ, ltb}
use Rattle.values.specs.declared.Outcome.{Outcome}
use Rattle.values.specs.Truths.{is_true, is_false}
use Rattle.values.specs.Outcomes.{condition_in, event_in}
use Rattle.table.specs.declared.Entry.{Entry}
use Rattle.table.specs.declared.Entry.TheVariants.{ImportedCondition, Defined, Pair, Not, Or, And, Implies, Less, Equal, ImportedEvent, Start, End, Both, Either, When, Constant, Variable, Sum, Difference, Clock, Value, Time, Update, Alarm, Property}
use Rattle.memory.specs.declared.Memory.{Memory}

-- a pair remembers that it is open, a start that its condition stood, an end that it failed, a time of an event the latest; no other kind remembers
unfoldable pub memory_of : Entry → Memory
memory_of (ImportedCondition i) = Memory.Nothing
memory_of (Defined a) = Memory.Nothing
memory_of (Pair a b) = Memory.Open
memory_of (Not a) = Memory.Nothing
memory_of (Or a b) = Memory.Nothing
memory_of (And a b) = Memory.Nothing
memory_of (Implies a b) = Memory.Nothing
memory_of (Less a b) = Memory.Nothing
memory_of (Equal a b) = Memory.Nothing
memory_of (ImportedEvent i) = Memory.Nothing
memory_of (Start a) = Memory.Stood
memory_of (End a) = Memory.Failed
memory_of (Both a b) = Memory.Nothing
memory_of (Either a b) = Memory.Nothing
memory_of (When a b) = Memory.Nothing
memory_of (Constant z) = Memory.Nothing
memory_of (Variable v) = Memory.Nothing
memory_of (Sum a b) = Memory.Nothing
memory_of (Difference a b) = Memory.Nothing
memory_of Clock = Memory.Nothing
memory_of (Value i) = Memory.Nothing
memory_of (Time a) = Memory.Latest
memory_of (Update a v b) = Memory.Nothing
memory_of (Alarm a) = Memory.Nothing
memory_of (Property a) = Memory.Nothing

-- whether a cell is marked: any number above 0 is a mark
abbrev pub marked : ℕ → Bool
marked cell = ltb 0 cell

-- a mark in a cell
abbrev pub mark : Bool → ℕ
mark b = cond b 1 0

-- a pair that was left open, or is opened now, and is not closed now
abbrev pub open_now : Bool → Bool → Bool → Bool
open_now wasOpen first second = (wasOpen || first) && not second

-- a kept time: now, or as it was kept
abbrev pub latest_now : Bool → ℕ → ℕ → ℕ
latest_now occurs now kept = cond occurs now kept

-- what is remembered for the next step, from the results x and y at the operand entries, the kept form of this step's time and the cell
abbrev pub remember : Memory → Outcome → Outcome → ℕ → ℕ → ℕ
remember Memory.Nothing x y now cell = cell
remember Memory.Open x y now cell = mark (open_now (marked cell) (event_in x) (event_in y))
remember Memory.Stood x y now cell = mark (is_true (condition_in x))
remember Memory.Failed x y now cell = mark (is_false (condition_in x))
remember Memory.Latest x y now cell = latest_now (event_in x) now cell
