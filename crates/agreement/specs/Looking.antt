-- Where an entry looks: an entry for which all of it is the same in two steps has the same result in both.
use Rattle.std.specs.Prelude.{Bool, true, false, ◌&&◌, ◌||◌, List, ◌≡◌, refl, ℕ, eqb, ℤ}
use Rattle.std.proofs.Math.Bool.{or-true}
use Rattle.std.proofs.Math.Option.{Option, none, some}
use Rattle.std.proofs.Common.{ap, eq-eqb}
use Rattle.values.specs.declared.Number.{Number}
use Rattle.values.specs.declared.Outcome.{Outcome}
use Rattle.values.specs.Truths.{not_t, or_t, and_t, implies_t, defined_t, truth_of, is_true}
use Rattle.values.specs.Numbers.{sum_n, difference_n, less_n, equal_n}
use Rattle.values.specs.Outcomes.{condition_in, event_in, number_in}
use Rattle.table.specs.declared.Entry.{Entry}
use Rattle.table.specs.declared.Entry.TheVariants.{ImportedCondition, Defined, Pair, Not, Or, And, Implies, Less, Equal, ImportedEvent, Start, End, Both, Either, When, Constant, Variable, Sum, Difference, Clock, Value, Time, Update, Alarm, Property}
use Rattle.table.specs.declared.Table.{Table}
use Rattle.table.specs.Kinds.{Operand, kind_of, operands_of, Change, update_of}
use Rattle.step.specs.declared.Told.{Told}
use Rattle.step.specs.Steps.{occurs_in, value_in}
use Rattle.meaning.specs.declared.Givens.{Givens}
use Rattle.meaning.specs.Places.{places_of}
use Rattle.meaning.specs.Meaning.{meaning, starts, ends}
use Rattle.reach.specs.Reaching.{is_operand, is_read, names_import, reads_clock}

-- it has a first operand entry
abbrev pub has_first : Entry → Bool
has_first e = is_operand (operands_of e) (places_of e).first

-- a second
abbrev pub has_second : Entry → Bool
has_second e = is_operand (operands_of e) (places_of e).second

-- an import
abbrev pub has_import : Entry → Bool
has_import e = names_import (operands_of e) (places_of e).imported

-- a variable that it reads
abbrev pub has_read : Entry → Bool
has_read e = is_read (operands_of e) (places_of e).variable

-- what an entry looks at is the same in two steps: the results x and y at its operand entries, and what else is given
pub record SameSeen (t : Table) (e : Entry) (x₁ x₂ y₁ y₂ : Outcome) (g₁ g₂ : Givens) : Type 0 where
  pub first : has_first e ≡ true → x₁ ≡ x₂
  pub second : has_second e ≡ true → y₁ ≡ y₂
  pub told : has_import e ≡ true → g₁.told ≡ g₂.told
  pub clock : reads_clock t e ≡ true → g₁.clock ≡ g₂.clock
  pub reported : has_import e ≡ true → g₁.reported ≡ g₂.reported
  pub held : has_read e ≡ true → g₁.held ≡ g₂.held
  pub paired : has_first e ≡ true → has_second e ≡ true → g₁.paired ≡ g₂.paired
  pub stood : has_first e ≡ true → g₁.stood ≡ g₂.stood
  pub failed : has_first e ≡ true → g₁.failed ≡ g₂.failed
  pub latest : has_first e ≡ true → reads_clock t e ≡ true → g₁.latest ≡ g₂.latest

-- the operand that stands first is one of the operands
is_first : (a : ℕ) (later : Bool) → (eqb a a || later) ≡ true
is_first a later = rw (eq-eqb a a refl)

-- and so is the one that stands second
is_second : (a b : ℕ) → (eqb a b || (eqb b b || false)) ≡ true
is_second a b = rw (is_first b false, or-true)

-- no kind looks at anything else
pub looks_nowhere_else : (t : Table) (e : Entry) {x₁ x₂ y₁ y₂ : Outcome} {g₁ g₂ : Givens} → SameSeen t e x₁ x₂ y₁ y₂ g₁ g₂
    → meaning e x₁ y₁ g₁ ≡ meaning e x₂ y₂ g₂
unfolding meaning operands_of places_of is_operand is_read names_import reads_clock kind_of
looks_nowhere_else t (ImportedCondition i) s = ap Outcome.Condition (s.reported (eq-eqb i i refl))
looks_nowhere_else t (Defined a) s = λ i. Outcome.Condition (defined_t (condition_in (s.first (is_first a _) i)))
looks_nowhere_else t (Pair a b) s = λ i. Outcome.Condition (truth_of (s.paired (is_first a _) (is_second a b) i))
looks_nowhere_else t (Not a) s = λ i. Outcome.Condition (not_t (condition_in (s.first (is_first a _) i)))
looks_nowhere_else t (Or a b) s = λ i. Outcome.Condition (or_t (condition_in (s.first (is_first a _) i)) (condition_in (s.second (is_second a b) i)))
looks_nowhere_else t (And a b) s = λ i. Outcome.Condition (and_t (condition_in (s.first (is_first a _) i)) (condition_in (s.second (is_second a b) i)))
looks_nowhere_else t (Implies a b) s = λ i. Outcome.Condition (implies_t (condition_in (s.first (is_first a _) i)) (condition_in (s.second (is_second a b) i)))
looks_nowhere_else t (Less a b) s = λ i. Outcome.Condition (less_n (number_in (s.first (is_first a _) i)) (number_in (s.second (is_second a b) i)))
looks_nowhere_else t (Equal a b) s = λ i. Outcome.Condition (equal_n (number_in (s.first (is_first a _) i)) (number_in (s.second (is_second a b) i)))
looks_nowhere_else t (ImportedEvent i) s = ap (λ (o : Told). Outcome.Event (occurs_in o)) (s.told (eq-eqb i i refl))
looks_nowhere_else t (Start a) s = λ i. Outcome.Event (starts (condition_in (s.first (is_first a _) i)) (s.stood (is_first a _) i))
looks_nowhere_else t (End a) s = λ i. Outcome.Event (ends (condition_in (s.first (is_first a _) i)) (s.failed (is_first a _) i))
looks_nowhere_else t (Both a b) s = λ i. Outcome.Event (event_in (s.first (is_first a _) i) && event_in (s.second (is_second a b) i))
looks_nowhere_else t (Either a b) s = λ i. Outcome.Event (event_in (s.first (is_first a _) i) || event_in (s.second (is_second a b) i))
looks_nowhere_else t (When a b) s = λ i. Outcome.Event (event_in (s.first (is_first a _) i) && is_true (condition_in (s.second (is_second a b) i)))
looks_nowhere_else t (Constant z) s = refl
looks_nowhere_else t (Variable x) s = ap Outcome.Numeric (s.held (eq-eqb x x refl))
looks_nowhere_else t (Sum a b) s = λ i. Outcome.Numeric (sum_n (number_in (s.first (is_first a _) i)) (number_in (s.second (is_second a b) i)))
looks_nowhere_else t (Difference a b) s = λ i. Outcome.Numeric (difference_n (number_in (s.first (is_first a _) i)) (number_in (s.second (is_second a b) i)))
looks_nowhere_else t Clock s = ap (λ (z : ℤ). Outcome.Numeric (Number.Whole z)) (s.clock refl)
looks_nowhere_else t (Value i) s = ap (λ (o : Told). Outcome.Numeric (value_in o)) (s.told (eq-eqb i i refl))
looks_nowhere_else t (Time a) s = ap Outcome.Numeric (s.latest (is_first a _) refl)
looks_nowhere_else t (Update a x b) s = λ i. Outcome.Done (event_in (s.first (is_first a _) i))
looks_nowhere_else t (Alarm a) s = λ i. Outcome.Raised (event_in (s.first (is_first a _) i))
looks_nowhere_else t (Property a) s = λ i. Outcome.Property (condition_in (s.first (is_first a _) i))

-- the number that a change gives is the result of one of these operands
abbrev pub gives_operand : Option Change → List Operand → Bool
gives_operand none os = true
gives_operand (some u) os = is_operand os u.number

-- "22 update E, variable, N"
pub gives_operand_lem : (e : Entry) → gives_operand (update_of e) (operands_of e) ≡ true
unfolding update_of operands_of is_operand
gives_operand_lem (ImportedCondition i) = refl
gives_operand_lem (Defined a) = refl
gives_operand_lem (Pair a b) = refl
gives_operand_lem (Not a) = refl
gives_operand_lem (Or a b) = refl
gives_operand_lem (And a b) = refl
gives_operand_lem (Implies a b) = refl
gives_operand_lem (Less a b) = refl
gives_operand_lem (Equal a b) = refl
gives_operand_lem (ImportedEvent i) = refl
gives_operand_lem (Start a) = refl
gives_operand_lem (End a) = refl
gives_operand_lem (Both a b) = refl
gives_operand_lem (Either a b) = refl
gives_operand_lem (When a b) = refl
gives_operand_lem (Constant z) = refl
gives_operand_lem (Variable x) = refl
gives_operand_lem (Sum a b) = refl
gives_operand_lem (Difference a b) = refl
gives_operand_lem Clock = refl
gives_operand_lem (Value i) = refl
gives_operand_lem (Time a) = refl
gives_operand_lem (Update a x b) = is_second a b
gives_operand_lem (Alarm a) = refl
gives_operand_lem (Property a) = refl
