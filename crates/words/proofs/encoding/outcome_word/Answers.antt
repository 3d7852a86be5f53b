-- `words::encoding::outcome_word` meets its contract: in each arm the result is the arm's, and its word is what the call ensures.
use mathlib.Core.Path.{refl}
use Rattle.words.specs.Words.{outcome_word}
use Rattle.words.proofs.encoding.outcome_word.Goals as goal

pub returns-in-Nothing : goal.returns-in-Nothing
unfolding outcome_word
returns-in-Nothing c = rw c.in-Nothing.is refl

pub returns-in-Condition : goal.returns-in-Condition
unfolding outcome_word
returns-in-Condition c = rw c.in-Condition.is c.truth_word.ensures

pub returns-in-Event : goal.returns-in-Event
unfolding outcome_word
returns-in-Event c = rw c.in-Event.is c.either_word.ensures

pub returns-in-Numeric : goal.returns-in-Numeric
unfolding outcome_word
returns-in-Numeric c = rw c.in-Numeric.is c.number_word.ensures

pub returns-in-Done : goal.returns-in-Done
unfolding outcome_word
returns-in-Done c = rw c.in-Done.is c.either_word-in-Done.ensures

pub returns-in-Raised : goal.returns-in-Raised
unfolding outcome_word
returns-in-Raised c = rw c.in-Raised.is c.either_word-in-Raised.ensures

pub returns-in-Property : goal.returns-in-Property
unfolding outcome_word
returns-in-Property c = rw c.in-Property.is c.property_word.ensures
