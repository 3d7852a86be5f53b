-- What each of the twenty-five kinds means at one step.
use Rattle.std.specs.Prelude.{Bool, not, ◌&&◌, ◌||◌}
use Rattle.values.specs.declared.Truth.{Truth}
use Rattle.values.specs.declared.Number.{Number}
use Rattle.values.specs.declared.Outcome.{Outcome}
use Rattle.values.specs.Truths.{not_t, or_t, and_t, implies_t, defined_t, truth_of, is_true, is_false}
use Rattle.values.specs.Numbers.{sum_n, difference_n, less_n, equal_n}
use Rattle.values.specs.Outcomes.{condition_in, event_in, number_in}
use Rattle.table.specs.declared.Entry.{Entry}
use Rattle.table.specs.declared.Entry.TheVariants.{ImportedCondition, Defined, Pair, Not, Or, And, Implies, Less, Equal, ImportedEvent, Start, End, Both, Either, When, Constant, Variable, Sum, Difference, Clock, Value, Time, Update, Alarm, Property}
use Rattle.table.specs.Kinds.{operands_of}
use Rattle.step.specs.Steps.{occurs_in, value_in}
use Rattle.meaning.specs.declared.Givens.{Givens}
use Rattle.meaning.specs.Places.{places_of}

-- "Start occurs where the condition is true and was not true one step before."
abbrev pub starts : Truth → Bool → Bool
starts now stood = is_true now && not stood

-- "End occurs where it is false and was not false one step before."
abbrev pub ends : Truth → Bool → Bool
ends now failed = is_false now && not failed

-- the result of an entry, from the results x and y at its first and second operand entry and what else is given
unfoldable pub meaning : Entry → Outcome → Outcome → Givens → Outcome
-- "An imported condition has its last reported value, undefined before any."
meaning (ImportedCondition i) x y g = Outcome.Condition g.reported
-- "defined [is that] of table 4.2"
meaning (Defined a) x y g = Outcome.Condition (defined_t (condition_in x))
-- "The pair is true at step i if ...; else false. It is never undefined."
meaning (Pair a b) x y g = Outcome.Condition (truth_of g.paired)
-- "Not, or ... are those of table 4.2 ...; 'a and b' is not (not a or not b); 'a implies b' is (not a) or b."
meaning (Not a) x y g = Outcome.Condition (not_t (condition_in x))
meaning (Or a b) x y g = Outcome.Condition (or_t (condition_in x) (condition_in y))
meaning (And a b) x y g = Outcome.Condition (and_t (condition_in x) (condition_in y))
meaning (Implies a b) x y g = Outcome.Condition (implies_t (condition_in x) (condition_in y))
-- "Sum, difference, less and equal are undefined where an operand is."
meaning (Less a b) x y g = Outcome.Condition (less_n (number_in x) (number_in y))
meaning (Equal a b) x y g = Outcome.Condition (equal_n (number_in x) (number_in y))
-- "An imported event occurs in the steps that report it."
meaning (ImportedEvent i) x y g = Outcome.Event (occurs_in g.told)
-- "Start occurs where ..." and "End occurs where ...", above
meaning (Start a) x y g = Outcome.Event (starts (condition_in x) g.stood)
meaning (End a) x y g = Outcome.Event (ends (condition_in x) g.failed)
-- "Both, either and when are plain; when needs its condition to be true."
meaning (Both a b) x y g = Outcome.Event (event_in x && event_in y)
meaning (Either a b) x y g = Outcome.Event (event_in x || event_in y)
meaning (When a b) x y g = Outcome.Event (event_in x && is_true (condition_in y))
-- "15 constant; 16 variable": a variable read sees what `held` says
meaning (Constant z) x y g = Outcome.Numeric (Number.Whole z)
meaning (Variable v) x y g = Outcome.Numeric g.held
-- "17 sum N N; 18 difference N N (first less second)"
meaning (Sum a b) x y g = Outcome.Numeric (sum_n (number_in x) (number_in y))
meaning (Difference a b) x y g = Outcome.Numeric (difference_n (number_in x) (number_in y))
-- "Clock is the time of this step. Value is the value reported in this step, else undefined."
meaning Clock x y g = Outcome.Numeric (Number.Whole g.clock)
meaning (Value i) x y g = Outcome.Numeric (value_in g.told)
-- "Time of E is the time of its latest occurrence, this step included; undefined before any."
meaning (Time a) x y g = Outcome.Numeric g.latest
-- "An update has the result of its event: done or not done."
meaning (Update a v b) x y g = Outcome.Done (event_in x)
-- "An alarm is raised where its event occurs. A property is violated where its condition is false; undefined is reported as not known."
meaning (Alarm a) x y g = Outcome.Raised (event_in x)
meaning (Property a) x y g = Outcome.Property (condition_in x)

-- names all that one entry is judged with: an example says `unfolding the_meaning`
unfoldable pub the_meaning : Unit {0}
unfolding operands_of places_of meaning
the_meaning = tt
