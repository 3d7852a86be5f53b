-- Which kinds of entry carry something on: to the next step in a cell, or to later entries in a variable.
use Rattle.std.specs.Prelude.{false, ◌≡◌, refl, ℕ}
use Rattle.std.proofs.Math.Option.{none}
use Rattle.values.specs.declared.Number.{Number}
use Rattle.values.specs.declared.Outcome.{Outcome}
use Rattle.values.specs.Outcomes.{is_done}
use Rattle.table.specs.declared.Entry.{Entry}
use Rattle.table.specs.declared.Entry.TheVariants.{ImportedCondition, Defined, Pair, Not, Or, And, Implies, Less, Equal, ImportedEvent, Start, End, Both, Either, When, Constant, Variable, Sum, Difference, Clock, Value, Time, Update, Alarm, Property}
use Rattle.table.specs.Kinds.{update_of}
use Rattle.meaning.specs.declared.Givens.{Givens}
use Rattle.meaning.specs.Meaning.{meaning}
use Rattle.memory.specs.declared.Memory.{Memory}
use Rattle.memory.specs.Memory.{memory_of}

-- what is given, without what a cell may tell
abbrev untold : Givens → Givens
untold g =
    record {
      told = g.told;
      clock = g.clock;
      reported = g.reported;
      held = g.held;
      paired = false;
      stood = false;
      failed = false;
      latest = Number.Undefined;
    }

-- a pair, a start, an end and a time of an event carry on in their cells, an update in its variable; any other kind remembers nothing,
-- gives no number, is never done, and looks at nothing that a cell may tell
pub data Carries : Entry → Type 0 where
  a_pair : (a b : ℕ) → Carries (Pair a b)
  a_start : (a : ℕ) → Carries (Start a)
  an_end : (a : ℕ) → Carries (End a)
  a_time : (a : ℕ) → Carries (Time a)
  an_update_lem : (a v b : ℕ) → Carries (Update a v b)
  other : {e : Entry} → memory_of e ≡ Memory.Nothing → update_of e ≡ none → ((x y : Outcome) (g : Givens) → is_done (meaning e x y g) ≡ false)
      → ((x y : Outcome) (g : Givens) → meaning e x y g ≡ meaning e x y (untold g)) → Carries e

-- every entry is of one of these kinds
pub carries : (e : Entry) → Carries e
unfolding memory_of update_of meaning
carries (ImportedCondition i) = other refl refl (λ x y g. refl) (λ x y g. refl)
carries (Defined a) = other refl refl (λ x y g. refl) (λ x y g. refl)
carries (Pair a b) = a_pair a b
carries (Not a) = other refl refl (λ x y g. refl) (λ x y g. refl)
carries (Or a b) = other refl refl (λ x y g. refl) (λ x y g. refl)
carries (And a b) = other refl refl (λ x y g. refl) (λ x y g. refl)
carries (Implies a b) = other refl refl (λ x y g. refl) (λ x y g. refl)
carries (Less a b) = other refl refl (λ x y g. refl) (λ x y g. refl)
carries (Equal a b) = other refl refl (λ x y g. refl) (λ x y g. refl)
carries (ImportedEvent i) = other refl refl (λ x y g. refl) (λ x y g. refl)
carries (Start a) = a_start a
carries (End a) = an_end a
carries (Both a b) = other refl refl (λ x y g. refl) (λ x y g. refl)
carries (Either a b) = other refl refl (λ x y g. refl) (λ x y g. refl)
carries (When a b) = other refl refl (λ x y g. refl) (λ x y g. refl)
carries (Constant z) = other refl refl (λ x y g. refl) (λ x y g. refl)
carries (Variable v) = other refl refl (λ x y g. refl) (λ x y g. refl)
carries (Sum a b) = other refl refl (λ x y g. refl) (λ x y g. refl)
carries (Difference a b) = other refl refl (λ x y g. refl) (λ x y g. refl)
carries Clock = other refl refl (λ x y g. refl) (λ x y g. refl)
carries (Value i) = other refl refl (λ x y g. refl) (λ x y g. refl)
carries (Time a) = a_time a
carries (Update a v b) = an_update_lem a v b
carries (Alarm a) = other refl refl (λ x y g. refl) (λ x y g. refl)
carries (Property a) = other refl refl (λ x y g. refl) (λ x y g. refl)
