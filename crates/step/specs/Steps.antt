-- An accepted step: its time and its reports.
use Rattle.std.specs.Prelude.{Bool, true, false, cond, List, [], ◌∷◌, ℕ, eqb}
use Rattle.values.specs.declared.Number.{Number}
use Rattle.step.specs.declared.Told.{Told}

-- "A report is the import ..., then for a condition [its value], for an event [its value, if one comes with it]."
pub record Report : Type 0 where
  pub imported : ℕ
  pub told : Told

-- "Time ...; report count ...; then the reports."
pub record Step : Type 0 where
  pub time : ℕ
  pub reports : List Report

-- what reports tell of import i
unfoldable pub told_by : List Report → ℕ → Told
told_by [] i = Told.Nothing
told_by (r ∷ rs) i = cond (eqb r.imported i) r.told (told_by rs i)

-- "An imported event occurs in the steps that report it."
abbrev pub occurs_in : Told → Bool
occurs_in Told.Nothing = false
occurs_in (Told.Condition c) = false
occurs_in (Told.Event x) = true

-- "Value is the value reported in this step, else undefined."
abbrev pub value_in : Told → Number
value_in Told.Nothing = Number.Undefined
value_in (Told.Condition c) = Number.Undefined
value_in (Told.Event x) = x
