-- "The history is the list of accepted steps. Results are defined from it alone, ... entry by entry."
use Rattle.std.specs.Prelude.{Bool, false, cond, ◌&&◌, List, [], ◌∷◌, ◌++◌, ℕ, zero, suc, ◌-◌, eqb, pos, length, get_or, replicate}
use Rattle.std.proofs.Math.Option
use Rattle.std.proofs.Math.Option.{Option, none, some}
use Rattle.values.specs.declared.Truth.{Truth}
use Rattle.values.specs.declared.Number.{Number}
use Rattle.values.specs.declared.Outcome.{Outcome}
use Rattle.values.specs.Truths.{is_true, is_false}
use Rattle.values.specs.Outcomes.{condition_in, event_in, number_in, is_done}
use Rattle.table.specs.declared.Table.{Table}
use Rattle.table.specs.Limits.{limits}
use Rattle.table.specs.Kinds.{Change, update_of}
use Rattle.table.specs.Tables.{entry_at, initial_of}
use Rattle.table.specs.Below.{some_below, none_below}
use Rattle.step.specs.declared.Told.{Told}
use Rattle.step.specs.Steps.{Step, told_by}
use Rattle.meaning.specs.declared.Givens.{Givens}
use Rattle.meaning.specs.Places.{places_of}
use Rattle.meaning.specs.Meaning.{meaning, the_meaning}

-- the accepted steps, the latest first
abbrev pub History : Type 0
History = List Step

-- the results of a step, by entry number
abbrev pub Row : Type 0
Row = List Outcome

-- a step and its results
pub record Moment : Type 0 where
  pub step : Step
  pub row : Row

-- the result of entry k in a row
abbrev pub row_at : Row → ℕ → Outcome
row_at row k = get_or row k Outcome.Nothing

-- the last report of a condition import: its value and the time of its step
pub data LastReport : Type 0 where
  never : LastReport
  reported : Truth → ℕ → LastReport

-- the report of this step, else an earlier one
abbrev pub reported_at : ℕ → Told → LastReport → LastReport
reported_at time Told.Nothing earlier = earlier
reported_at time (Told.Condition c) earlier = reported c time
reported_at time (Told.Event x) earlier = earlier

-- the last report of import i in a history
unfoldable pub last_report : History → ℕ → LastReport
last_report [] i = never
last_report (s ∷ h) i = reported_at s.time (told_by s.reports i) (last_report h i)

-- "An imported condition has its last reported value, undefined before any."
abbrev pub last_value : LastReport → Truth
last_value never = Truth.Undefined
last_value (reported c time) = c

-- whether event e occurred so many steps before the latest of these moments
abbrev pub occurred : List Moment → ℕ → ℕ → Bool
occurred [] e ago = false
occurred (m ∷ ms) e zero = event_in (row_at m.row e)
occurred (m ∷ ms) e (suc ago) = occurred ms e ago

-- "The pair is true at step i if the first event occurred at some step j ≤ i and the second at no step from j to i, both ends counted; else false."
-- The latest of the moments is step i, and step j stands so many steps before it.
unfoldable pub pair_holds : List Moment → ℕ → ℕ → Bool
pair_holds moments first second =
    some_below (length moments) (λ j. occurred moments first j && none_below (suc j) (λ m. occurred moments second m))

-- a condition one step before; "Before the first step every condition counts as undefined."
abbrev pub condition_before : List Moment → ℕ → Truth
condition_before [] c = Truth.Undefined
condition_before (m ∷ ms) c = condition_in (row_at m.row c)

-- "Time of E is the time of its latest occurrence ...; undefined before any."
unfoldable pub latest_time : List Moment → ℕ → Number
latest_time [] e = Number.Undefined
latest_time (m ∷ ms) e = cond (event_in (row_at m.row e)) (Number.Whole (pos m.step.time)) (latest_time ms e)

-- "An update whose event occurs gives the variable that number, undefined included."
abbrev pub given_by : Option Change → Outcome → Row → ℕ → Option Number
given_by none o row x = none
given_by (some u) o row x = cond (is_done o && eqb u.variable x) (some (number_in (row_at row u.number))) none

-- the first that is there
abbrev pub or_else : Option Number → Option Number → Option Number
or_else none later = later
or_else (some x) later = some x

-- the number that the last update of x at an entry before k gave in this step, if any
unfoldable pub given_before : Table → Row → ℕ → ℕ → Option Number
given_before t row x zero = none
given_before t row x (suc k) = or_else (given_by (update_of (entry_at t k)) (row_at row k) row x) (given_before t row x k)

-- what earlier steps left in x: the latest number given, else the initial value
unfoldable pub held_before : Table → List Moment → ℕ → Number
held_before t [] x = initial_of t x
held_before t (m ∷ ms) x = Option.get_or (given_before t m.row x t.n) (held_before t ms x)

-- "A variable read at entry k sees the updates at entries before k of this step, then those of earlier steps, then the initial value."
unfoldable pub held_at : Table → List Moment → Row → ℕ → ℕ → Number
held_at t past row k x = Option.get_or (given_before t row x k) (held_before t past x)

-- the steps of these moments
unfoldable pub steps_of : List Moment → History
steps_of [] = []
steps_of (m ∷ ms) = m.step ∷ steps_of ms

-- what entry k looks at in this step, after the results `row` of the entries before it
unfoldable pub givens_at : Table → List Moment → Step → Row → ℕ → Givens
givens_at t past s row k =
    let places = places_of (entry_at t k) in
    let moments : List Moment = record { step = s; row = row } ∷ past in
    record {
      told = told_by s.reports places.imported;
      clock = pos s.time;
      reported = last_value (last_report (s ∷ steps_of past) places.imported);
      held = held_at t past row k places.variable;
      paired = pair_holds moments places.first places.second;
      stood = is_true (condition_before past places.first);
      failed = is_false (condition_before past places.first);
      latest = latest_time moments places.first;
    }

-- how the result of entry k follows from the moments before this step, this step, and the results before entry k
abbrev pub Judge : Type 0
Judge = Table → List Moment → Step → Row → ℕ → Outcome

-- the judge of document 01
unfoldable pub judge : Judge
judge t past s row k =
    let places = places_of (entry_at t k) in
    meaning (entry_at t k) (row_at row places.first) (row_at row places.second) (givens_at t past s row k)

-- "Entries are taken in script order within a step."
unfoldable pub row_to : Judge → Table → List Moment → Step → ℕ → Row
row_to by t past s zero = []
row_to by t past s (suc k) = let row = row_to by t past s k in row ++ (by t past s row k ∷ [])

-- the whole history with its results, the latest first
unfoldable pub moments_by : Judge → Table → History → List Moment
moments_by by t [] = []
moments_by by t (s ∷ h) = let past = moments_by by t h in record { step = s; row = row_to by t past s t.n } ∷ past

-- the results of the latest step
abbrev pub latest_row : List Moment → Row
latest_row [] = []
latest_row (m ∷ ms) = m.row

-- the result of entry k at the latest step of a history
unfoldable pub result_by : Judge → Table → History → ℕ → Outcome
result_by by t h k = row_at (latest_row (moments_by by t h)) k

-- what the logic says of entry k at the latest step of a history
unfoldable pub result_at : Table → History → ℕ → Outcome
result_at = result_by judge

-- "a step hands back 128 of them; slots past n hold 'no result'"
unfoldable pub results_of : Table → History → List Outcome
results_of t h = let row = latest_row (moments_by judge t h) in row ++ replicate (limits.slots - length row) Outcome.Nothing

-- names all that the logic is computed with: an example says `unfolding the_logic`
unfoldable pub the_logic : Unit {0}
unfolding entry_at initial_of update_of told_by the_meaning last_report some_below none_below pair_holds latest_time given_before held_before held_at steps_of givens_at judge row_to moments_by result_by result_at results_of
the_logic = tt
