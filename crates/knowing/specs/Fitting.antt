-- A history of steps as they can be read: times and values in range.
use Rattle.std.specs.Prelude.{true, [], ◌∷◌, ◌≡◌, ℕ, ◌<◌, ◌^◌}
use Rattle.values.specs.Numbers.{fits_n}
use Rattle.step.specs.Steps.{Step, told_by, value_in}
use Rattle.history.specs.History.{History}

-- "Times are milliseconds, 0 to 2^47−1"; the values that it reports are numbers in range
pub record StepFits (s : Step) : Type 0 where
  pub time : s.time < 2 ^ 47
  pub values : (i : ℕ) → fits_n (value_in (told_by s.reports i)) ≡ true

-- so is every step of a history
abbrev pub HistoryFits : History → Type 0
HistoryFits [] = Unit {0}
HistoryFits (s ∷ h) = StepFits s × HistoryFits h
