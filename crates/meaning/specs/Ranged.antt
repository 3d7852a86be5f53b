-- Every number that an entry of a sound table gives is in range, where what it looks at is.
use Rattle.std.specs.Prelude.{Bool, true, false, cond, ◌≡◌, refl, ℕ, ℤ, ◌+ℤ◌, ◌-ℤ◌, Ok}
use Rattle.values.specs.declared.Number.{Number}
use Rattle.values.specs.declared.Outcome.{Outcome}
use Rattle.values.specs.Numbers.{in_range, fits_n, ranged, sum_n, difference_n}
use Rattle.values.specs.Outcomes.{number_in}
use Rattle.refusals.specs.declared.Refusal.{Refusal}
use Rattle.refusals.specs.Numbering.{unless}
use Rattle.refusals.specs.Accepting.{unless_accepted, accepted_first}
use Rattle.table.specs.declared.Entry.{Entry}
use Rattle.table.specs.declared.Entry.TheVariants.{ImportedCondition, Defined, Pair, Not, Or, And, Implies, Less, Equal, ImportedEvent, Start, End, Both, Either, When, Constant, Variable, Sum, Difference, Clock, Value, Time, Update, Alarm, Property}
use Rattle.table.specs.declared.Table.{Table}
use Rattle.table.specs.Kinds.{operands_of}
use Rattle.table.specs.Faults.{operand_fault, operands_fault}
use Rattle.step.specs.Steps.{value_in}
use Rattle.meaning.specs.declared.Givens.{Givens}
use Rattle.meaning.specs.Meaning.{meaning}

-- what an entry looks at, in range
pub record GivensFit (g : Givens) : Type 0 where
  pub told : fits_n (value_in g.told) ≡ true
  pub clock : in_range g.clock ≡ true
  pub held : fits_n g.held ≡ true
  pub latest : fits_n g.latest ≡ true

-- "A sum or difference outside the number range is undefined": what is left is in range
ranged_fits : (z : ℤ) → fits_n (ranged z) ≡ true
ranged_fits z = by (in_range z) refl
  where
    by : (b : Bool) → in_range z ≡ b → fits_n (cond b (Number.Whole z) Number.Undefined) ≡ true
    by true e = e
    by false e = refl

-- a sum, whatever is added
sum_fits : (a b : Number) → fits_n (sum_n a b) ≡ true
sum_fits Number.Undefined b = refl
sum_fits (Number.Whole a) Number.Undefined = refl
sum_fits (Number.Whole a) (Number.Whole b) = ranged_fits (a +ℤ b)

-- a difference
difference_fits : (a b : Number) → fits_n (difference_n a b) ≡ true
difference_fits Number.Undefined b = refl
difference_fits (Number.Whole a) Number.Undefined = refl
difference_fits (Number.Whole a) (Number.Whole b) = ranged_fits (a -ℤ b)

-- a number that an entry of a sound table gives is in range, where what it looks at is
pub meaning_fits : (t : Table) (k : ℕ) (e : Entry) → operands_fault t k (operands_of e) ≡ Ok tt → (x y : Outcome) (g : Givens) → GivensFit g
    → fits_n (number_in (meaning e x y g)) ≡ true
unfolding operands_of operands_fault operand_fault meaning
meaning_fits t k (ImportedCondition i) good x y g fits = refl
meaning_fits t k (Defined a) good x y g fits = refl
meaning_fits t k (Pair a b) good x y g fits = refl
meaning_fits t k (Not a) good x y g fits = refl
meaning_fits t k (Or a b) good x y g fits = refl
meaning_fits t k (And a b) good x y g fits = refl
meaning_fits t k (Implies a b) good x y g fits = refl
meaning_fits t k (Less a b) good x y g fits = refl
meaning_fits t k (Equal a b) good x y g fits = refl
meaning_fits t k (ImportedEvent i) good x y g fits = refl
meaning_fits t k (Start a) good x y g fits = refl
meaning_fits t k (End a) good x y g fits = refl
meaning_fits t k (Both a b) good x y g fits = refl
meaning_fits t k (Either a b) good x y g fits = refl
meaning_fits t k (When a b) good x y g fits = refl
meaning_fits t k (Constant z) good x y g fits = unless_accepted (in_range z) Refusal.Range (accepted_first (unless (in_range z) Refusal.Range) (Ok tt) good)
meaning_fits t k (Variable v) good x y g fits = fits.held
meaning_fits t k (Sum a b) good x y g fits = sum_fits (number_in x) (number_in y)
meaning_fits t k (Difference a b) good x y g fits = difference_fits (number_in x) (number_in y)
meaning_fits t k Clock good x y g fits = fits.clock
meaning_fits t k (Value i) good x y g fits = fits.told
meaning_fits t k (Time a) good x y g fits = fits.latest
meaning_fits t k (Update a v b) good x y g fits = refl
meaning_fits t k (Alarm a) good x y g fits = refl
meaning_fits t k (Property a) good x y g fits = refl
