-- "An entry is one of twenty-five kinds, each with its own operands."
use Rattle.std.specs.Prelude.{Bool, ◌||◌, List, [], ◌∷◌, ℕ, eqb, ℤ}
use Rattle.std.proofs.Math.Option.{Option, none, some}
use Rattle.table.specs.declared.Sort.{Sort}
use Rattle.table.specs.declared.Entry.{Entry}
use Rattle.table.specs.declared.Entry.TheVariants.{ImportedCondition, Defined, Pair, Not, Or, And, Implies, Less, Equal, ImportedEvent, Start, End, Both, Either, When, Constant, Variable, Sum, Difference, Clock, Value, Time, Update, Alarm, Property}

-- what an operand names: an earlier entry of a sort, an import of a sort, a variable, or a number itself
pub data Operand : Type 0 where
  entry : Sort → ℕ → Operand
  imported : Sort → ℕ → Operand
  variable : ℕ → Operand
  constant : ℤ → Operand

-- C, E and N as the table of kinds has them: an earlier entry of that sort
abbrev pub C : ℕ → Operand
C a = entry Sort.Condition a

-- E: an earlier entry that is an event
abbrev pub E : ℕ → Operand
E a = entry Sort.Event a

-- N: an earlier entry that is a number
abbrev pub N : ℕ → Operand
N a = entry Sort.Number a

-- "Kind 0 names a condition import; kinds 9 and 20 an event import."
abbrev pub condition_import : ℕ → Operand
condition_import i = imported Sort.Condition i

-- an event import
abbrev pub event_import : ℕ → Operand
event_import i = imported Sort.Event i

-- the number of each kind
unfoldable pub kind_of : Entry → ℕ
kind_of (ImportedCondition i) = 0
kind_of (Defined a) = 1
kind_of (Pair a b) = 2
kind_of (Not a) = 3
kind_of (Or a b) = 4
kind_of (And a b) = 5
kind_of (Implies a b) = 6
kind_of (Less a b) = 7
kind_of (Equal a b) = 8
kind_of (ImportedEvent i) = 9
kind_of (Start a) = 10
kind_of (End a) = 11
kind_of (Both a b) = 12
kind_of (Either a b) = 13
kind_of (When a b) = 14
kind_of (Constant z) = 15
kind_of (Variable x) = 16
kind_of (Sum a b) = 17
kind_of (Difference a b) = 18
kind_of Clock = 19
kind_of (Value i) = 20
kind_of (Time a) = 21
kind_of (Update a x b) = 22
kind_of (Alarm a) = 23
kind_of (Property a) = 24

-- the operands of each kind, in the table's order
unfoldable pub operands_of : Entry → List Operand
operands_of (ImportedCondition i) = condition_import i ∷ []
operands_of (Defined a) = C a ∷ []
operands_of (Pair a b) = E a ∷ E b ∷ []
operands_of (Not a) = C a ∷ []
operands_of (Or a b) = C a ∷ C b ∷ []
operands_of (And a b) = C a ∷ C b ∷ []
operands_of (Implies a b) = C a ∷ C b ∷ []
operands_of (Less a b) = N a ∷ N b ∷ []
operands_of (Equal a b) = N a ∷ N b ∷ []
operands_of (ImportedEvent i) = event_import i ∷ []
operands_of (Start a) = C a ∷ []
operands_of (End a) = C a ∷ []
operands_of (Both a b) = E a ∷ E b ∷ []
operands_of (Either a b) = E a ∷ E b ∷ []
operands_of (When a b) = E a ∷ C b ∷ []
operands_of (Constant z) = constant z ∷ []
operands_of (Variable x) = variable x ∷ []
operands_of (Sum a b) = N a ∷ N b ∷ []
operands_of (Difference a b) = N a ∷ N b ∷ []
operands_of Clock = []
operands_of (Value i) = event_import i ∷ []
operands_of (Time a) = E a ∷ []
operands_of (Update a x b) = E a ∷ variable x ∷ N b ∷ []
operands_of (Alarm a) = E a ∷ []
operands_of (Property a) = C a ∷ []

-- the sort of each kind
unfoldable pub sort_of : Entry → Sort
sort_of (ImportedCondition i) = Sort.Condition
sort_of (Defined a) = Sort.Condition
sort_of (Pair a b) = Sort.Condition
sort_of (Not a) = Sort.Condition
sort_of (Or a b) = Sort.Condition
sort_of (And a b) = Sort.Condition
sort_of (Implies a b) = Sort.Condition
sort_of (Less a b) = Sort.Condition
sort_of (Equal a b) = Sort.Condition
sort_of (ImportedEvent i) = Sort.Event
sort_of (Start a) = Sort.Event
sort_of (End a) = Sort.Event
sort_of (Both a b) = Sort.Event
sort_of (Either a b) = Sort.Event
sort_of (When a b) = Sort.Event
sort_of (Constant z) = Sort.Number
sort_of (Variable x) = Sort.Number
sort_of (Sum a b) = Sort.Number
sort_of (Difference a b) = Sort.Number
sort_of Clock = Sort.Number
sort_of (Value i) = Sort.Number
sort_of (Time a) = Sort.Number
sort_of (Update a x b) = Sort.None
sort_of (Alarm a) = Sort.None
sort_of (Property a) = Sort.None

-- a sort as a number, by which two are compared
abbrev pub sort_number : Sort → ℕ
sort_number Sort.None = 0
sort_number Sort.Condition = 1
sort_number Sort.Event = 2
sort_number Sort.Number = 3

-- the same sort
abbrev pub same_sort : Sort → Sort → Bool
same_sort a b = eqb (sort_number a) (sort_number b)

-- "For each alarm and property entry": it has a label
unfoldable pub labelled : Entry → Bool
labelled e = eqb (kind_of e) 23 || eqb (kind_of e) 24

-- what an update changes: a variable, and the entry of the number that it gives
pub record Change : Type 0 where
  pub variable : ℕ
  pub number : ℕ

-- "22 update E, variable, N"; no other kind gives a variable a number
unfoldable pub update_of : Entry → Option Change
update_of (ImportedCondition i) = none
update_of (Defined a) = none
update_of (Pair a b) = none
update_of (Not a) = none
update_of (Or a b) = none
update_of (And a b) = none
update_of (Implies a b) = none
update_of (Less a b) = none
update_of (Equal a b) = none
update_of (ImportedEvent i) = none
update_of (Start a) = none
update_of (End a) = none
update_of (Both a b) = none
update_of (Either a b) = none
update_of (When a b) = none
update_of (Constant z) = none
update_of (Variable x) = none
update_of (Sum a b) = none
update_of (Difference a b) = none
update_of Clock = none
update_of (Value i) = none
update_of (Time a) = none
update_of (Update a x b) = some (record { variable = x; number = b })
update_of (Alarm a) = none
update_of (Property a) = none
