-- Results: what document 01 says of each, and what an operand takes from one.
use Rattle.std.specs.Prelude.{Bool, true, false, ◌≡◌, refl, ℤ}
use Rattle.std.proofs.Common.{sym, ap, ◌∙◌}
use Rattle.values.specs.declared.Truth.{Truth}
use Rattle.values.specs.declared.Number.{Number}
use Rattle.values.specs.declared.Outcome.{Outcome}
use Rattle.values.specs.declared.Outcome.TheVariants.{Nothing, Condition, Event, Numeric, Done, Raised, Property}

-- every result in document 01's words
pub data Said : Type 0 where
  no_result : Said
  true-condition false-condition undefined-condition : Said
  occurs does-not-occur : Said
  undefined_number : Said
  whole_number : ℤ → Said
  done not_done : Said
  raised not-raised : Said
  not-violated violated not_known : Said

-- "A condition is true, false or undefined."
abbrev condition_said : Truth → Said
condition_said Truth.Undefined = undefined-condition
condition_said Truth.False = false-condition
condition_said Truth.True = true-condition

-- "A property is violated where its condition is false; undefined is reported as not known."
abbrev property_said : Truth → Said
property_said Truth.Undefined = not_known
property_said Truth.False = violated
property_said Truth.True = not-violated

-- "A number is undefined or a whole number"
abbrev number_said : Number → Said
number_said Number.Undefined = undefined_number
number_said (Number.Whole z) = whole_number z

-- the word for what is so, and the word for what is not
abbrev yes_no : Said → Said → Bool → Said
yes_no y n true = y
yes_no y n false = n

-- what document 01 says where a result slot holds this
unfoldable pub said : Outcome → Said
said Nothing = no_result
said (Condition c) = condition_said c
said (Event b) = yes_no occurs does-not-occur b
said (Numeric x) = number_said x
said (Done b) = yes_no done not_done b
said (Raised b) = yes_no raised not-raised b
said (Property c) = property_said c

-- a result of the sort C, as an operand takes it; other sorts do not stand there in a sound table
abbrev pub condition_in : Outcome → Truth
condition_in Nothing = Truth.Undefined
condition_in (Condition c) = c
condition_in (Event b) = Truth.Undefined
condition_in (Numeric x) = Truth.Undefined
condition_in (Done b) = Truth.Undefined
condition_in (Raised b) = Truth.Undefined
condition_in (Property c) = Truth.Undefined

-- a result of the sort E, as an operand takes it
abbrev pub event_in : Outcome → Bool
event_in Nothing = false
event_in (Condition c) = false
event_in (Event b) = b
event_in (Numeric x) = false
event_in (Done b) = false
event_in (Raised b) = false
event_in (Property c) = false

-- a result of the sort N, as an operand takes it
abbrev pub number_in : Outcome → Number
number_in Nothing = Number.Undefined
number_in (Condition c) = Number.Undefined
number_in (Event b) = Number.Undefined
number_in (Numeric x) = x
number_in (Done b) = Number.Undefined
number_in (Raised b) = Number.Undefined
number_in (Property c) = Number.Undefined

-- whether an update was done
abbrev pub is_done : Outcome → Bool
is_done Nothing = false
is_done (Condition c) = false
is_done (Event b) = false
is_done (Numeric x) = false
is_done (Done b) = b
is_done (Raised b) = false
is_done (Property c) = false

-- the result that the document's words stand for
outcome_of : Said → Outcome
outcome_of no_result = Nothing
outcome_of true-condition = Condition Truth.True
outcome_of false-condition = Condition Truth.False
outcome_of undefined-condition = Condition Truth.Undefined
outcome_of occurs = Event true
outcome_of does-not-occur = Event false
outcome_of undefined_number = Numeric Number.Undefined
outcome_of (whole_number z) = Numeric (Number.Whole z)
outcome_of done = Done true
outcome_of not_done = Done false
outcome_of raised = Raised true
outcome_of not-raised = Raised false
outcome_of not-violated = Property Truth.True
outcome_of violated = Property Truth.False
outcome_of not_known = Property Truth.Undefined

said_back : (o : Outcome) → outcome_of (said o) ≡ o
unfolding said outcome_of
said_back Nothing = refl
said_back (Condition Truth.Undefined) = refl
said_back (Condition Truth.False) = refl
said_back (Condition Truth.True) = refl
said_back (Event true) = refl
said_back (Event false) = refl
said_back (Numeric Number.Undefined) = refl
said_back (Numeric (Number.Whole z)) = refl
said_back (Done true) = refl
said_back (Done false) = refl
said_back (Raised true) = refl
said_back (Raised false) = refl
said_back (Property Truth.Undefined) = refl
said_back (Property Truth.False) = refl
said_back (Property Truth.True) = refl

-- the words determine the result
pub said_same : (a b : Outcome) → said a ≡ said b → a ≡ b
said_same a b e = sym (said_back a) ∙ ap outcome_of e ∙ said_back b
