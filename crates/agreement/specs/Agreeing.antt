-- "Two streams that agree on what a rule reaches": step by step, on the reports of every import it reaches, and on the times if it reaches the clock.
use Rattle.std.specs.Prelude.{Bool, false, List, [], ◌∷◌, ◌≡◌, ℕ, T, get_or}
use Rattle.values.specs.declared.Outcome.{Outcome}
use Rattle.table.specs.declared.Table.{Table}
use Rattle.step.specs.Steps.{Step, told_by}
use Rattle.history.specs.History.{History, result_at}
use Rattle.reach.specs.declared.Reach.{Reach}
use Rattle.reach.specs.Reaching.{Entries, reaches_import, reaches_clock}

-- what can touch a rule from outside: imports, and perhaps the clock
pub record Touching : Type 0 where
  pub imports : ℕ → Bool
  pub clock : Bool

-- what a reach shows of it
abbrev pub touching_in : Reach → Touching
touching_in r = record { imports = λ i. get_or r.imports i false; clock = r.clock }

-- what a set of entries reaches of it
abbrev pub touching_by : Table → Entries → Touching
touching_by t S = record { imports = reaches_import t S; clock = reaches_clock t S }

-- two steps that agree "on the reports of every import the rule reaches, and on the times too if it reaches the clock"
pub record StepsAgree (r : Touching) (a b : Step) : Type 0 where
  pub reports : (i : ℕ) → T (r.imports i) → told_by a.reports i ≡ told_by b.reports i
  pub times : T r.clock → a.time ≡ b.time

-- "equal in number", and they agree "accepted step by accepted step"
abbrev pub Agree : Touching → History → History → Type 0
Agree r [] [] = Unit
Agree r [] (b ∷ h) = ⊥
Agree r (a ∷ g) [] = ⊥
Agree r (a ∷ g) (b ∷ h) = StepsAgree r a b × Agree r g h

-- what the logic gives a rule at every accepted step, the latest first
unfoldable pub results_of_rule : Table → ℕ → History → List Outcome
results_of_rule t k [] = []
results_of_rule t k (s ∷ h) = result_at t (s ∷ h) k ∷ results_of_rule t k h
