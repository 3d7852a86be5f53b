-- "Marked examples": P1 to P12, proved about the definitions by one statement over one list.
use Rattle.std.specs.Prelude.{Bool, true, false, List, [], ◌∷◌, ◌++◌, map, reverse, ◌≡◌, refl, ℕ, ◌-◌, ◌^◌, pos, length, replicate, Ok}
use Rattle.values.specs.declared.Truth.{Truth}
use Rattle.values.specs.declared.Number.{Number}
use Rattle.values.specs.Outcomes.{Said, true-condition, false-condition, undefined-condition, occurs, does-not-occur, undefined_number, whole_number, said}
use Rattle.refusals.specs.Numbering.{first_fault}
use Rattle.table.specs.declared.Entry.{Entry}
use Rattle.table.specs.declared.Entry.TheVariants.{ImportedCondition, Defined, Pair, Or, And, Implies, Less, ImportedEvent, Start, End, Constant, Variable, Sum, Update}
use Rattle.table.specs.declared.Table.{Table}
use Rattle.table.specs.Limits.{limits}
use Rattle.table.specs.Kinds.{operands_of, sort_of}
use Rattle.table.specs.Tables.{entry_at, initial_of, is_event, import_sort, every_slot, unused_slots}
use Rattle.table.specs.Faults.{operand_fault, operands_fault, limits_fault, number_fault, table_fault}
use Rattle.step.specs.declared.Told.{Told}
use Rattle.step.specs.Steps.{Report, Step}
use Rattle.history.specs.History.{Judge, judge, result_by, the_logic}

-- a list made as long as that with the same thing
abbrev padded {ℓ} : {A : Type ℓ} → ℕ → A → List A → List A
padded size a xs = xs ++ replicate (size - length xs) a

-- a table of these imports (true: an event), these initial values and these entries
abbrev pub rules : List Bool → List Number → List Entry → Table
rules events initial entries =
    record {
      n = length entries;
      q = length events;
      v = length initial;
      events = padded limits.imports false events;
      variables = padded limits.variables Number.Undefined initial;
      entries = padded limits.slots (Constant (pos 0)) entries;
    }

-- a step at a time, and its reports
abbrev pub at : ℕ → List Report → Step
at time reports = record { time = time; reports = reports }

-- a condition is reported as such
abbrev pub is : ℕ → Truth → Report
is i c = record { imported = i; told = Told.Condition c }

-- an event is reported, with no value
abbrev pub happens : ℕ → Report
happens i = record { imported = i; told = Told.Event Number.Undefined }

-- an example: what document 01 says of an entry at the last of these steps
pub record Case : Type 0 where
  pub table : Table
  pub steps : List Step
  pub asked : ℕ
  pub says : Said

-- what a judge says there
unfoldable pub answer_by : Judge → Case → Said
answer_by by c = said (result_by by c.table (reverse c.steps) c.asked)

-- two condition imports, of which the second is reported as such
abbrev two : Truth → List Step
two c = at 1 (is 1 c ∷ []) ∷ []

abbrev conditions : Entry → Table
conditions e = rules (false ∷ false ∷ []) [] (ImportedCondition 0 ∷ ImportedCondition 1 ∷ e ∷ [])

-- "undefined or true: true"
abbrev p1 : Case
p1 = record { table = conditions (Or 0 1); steps = two Truth.True; asked = 2; says = true-condition }

-- "undefined and false: false"
abbrev p2 : Case
p2 = record { table = conditions (And 0 1); steps = two Truth.False; asked = 2; says = false-condition }

-- "undefined implies undefined: undefined"
abbrev pub p3 : Case
p3 = record { table = conditions (Implies 0 1); steps = two Truth.Undefined; asked = 2; says = undefined-condition }

-- "defined of undefined: false"
abbrev p4 : Case
p4 = record { table = conditions (Defined 0); steps = two Truth.True; asked = 2; says = false-condition }

abbrev pair_of_two : Table
pair_of_two = rules (true ∷ true ∷ []) [] (ImportedEvent 0 ∷ ImportedEvent 1 ∷ Pair 0 1 ∷ [])

-- "both events of a pair in one step: false"
abbrev p5 : Case
p5 = record { table = pair_of_two; steps = at 1 (happens 0 ∷ happens 1 ∷ []) ∷ []; asked = 2; says = false-condition }

-- "first event at step 1, nothing at step 2: true at 2"
abbrev p6 : Case
p6 = record { table = pair_of_two; steps = at 1 (happens 0 ∷ []) ∷ at 2 [] ∷ []; asked = 2; says = true-condition }

-- a condition, its start and its end
abbrev pub start_and_end : Table
start_and_end = rules (false ∷ []) [] (ImportedCondition 0 ∷ Start 0 ∷ End 0 ∷ [])

-- "true at the first step: start occurs"
abbrev p7 : Case
p7 = record { table = start_and_end; steps = at 1 (is 0 Truth.True ∷ []) ∷ []; asked = 1; says = occurs }

-- "false at the first step: end occurs"
abbrev pub p8 : Case
p8 = record { table = start_and_end; steps = at 1 (is 0 Truth.False ∷ []) ∷ []; asked = 2; says = occurs }

-- "true, then undefined"
abbrev pub true_then_undefined : List Step
true_then_undefined = at 1 (is 0 Truth.True ∷ []) ∷ at 2 (is 0 Truth.Undefined ∷ []) ∷ []

-- "neither start nor end"
abbrev p9start : Case
p9start = record { table = start_and_end; steps = true_then_undefined; asked = 1; says = does-not-occur }

-- and its end
abbrev pub p9end : Case
p9end = record { table = start_and_end; steps = true_then_undefined; asked = 2; says = does-not-occur }

-- "(2^47−1) + 1: undefined"
abbrev p10 : Case
p10 =
    record {
      table = rules [] [] (Constant (pos (2 ^ 47 - 1)) ∷ Constant (pos 1) ∷ Sum 0 1 ∷ []);
      steps = at 1 [] ∷ [];
      asked = 2;
      says = undefined_number;
    }

-- "undefined less than 3: undefined"
abbrev p11 : Case
p11 =
    record {
      table = rules [] (Number.Undefined ∷ []) (Variable 0 ∷ Constant (pos 3) ∷ Less 0 1 ∷ []);
      steps = at 1 [] ∷ [];
      asked = 2;
      says = undefined-condition;
    }

-- a read of a variable that starts at 5, and after it an update that gives 7
abbrev pub read_then_update : Table
read_then_update = rules (true ∷ []) (Number.Whole (pos 5) ∷ []) (Variable 0 ∷ ImportedEvent 0 ∷ Constant (pos 7) ∷ Update 1 0 2 ∷ [])

-- "a read before an update sees the old value in that step and the new one in the next"
abbrev p12old : Case
p12old = record { table = read_then_update; steps = at 1 (happens 0 ∷ []) ∷ []; asked = 0; says = whole_number (pos 5) }

abbrev p12new : Case
p12new = record { table = read_then_update; steps = at 1 (happens 0 ∷ []) ∷ at 2 [] ∷ []; asked = 0; says = whole_number (pos 7) }

-- the one list
abbrev pub cases : List Case
cases = p1 ∷ p2 ∷ p3 ∷ p4 ∷ p5 ∷ p6 ∷ p7 ∷ p8 ∷ p9start ∷ p9end ∷ p10 ∷ p11 ∷ p12old ∷ p12new ∷ []

-- P1 to P12: the logic says what document 01 says, at every case of the list
pub marked_examples : map (answer_by judge) cases ≡ map (λ c. c.says) cases
unfolding answer_by said the_logic
marked_examples = refl

-- and every table of the list is one that the monitor takes
pub marked_tables_sound : map (λ c. table_fault c.table) cases ≡ map (λ c. Ok tt) cases
unfolding table_fault limits_fault number_fault operands_fault operand_fault unused_slots every_slot first_fault entry_at initial_of is_event import_sort sort_of operands_of
marked_tables_sound = refl
