-- Demand 3, stated over any machine and any reach: "Two streams that agree on what a rule reaches give it the same results, in the logic and in the monitor; the reach shown is the least set."
use Rattle.std.specs.Prelude.{List, [], ◌∷◌, ◌≡◌, ℕ, ◌<◌, Ok, Err}
use Rattle.values.specs.declared.Outcome.{Outcome}
use Rattle.refusals.specs.Answers.{Answer}
use Rattle.table.specs.declared.Table.{Table}
use Rattle.table.specs.Tables.{Shaped}
use Rattle.table.specs.Faults.{table_fault}
use Rattle.history.specs.Offered.{history_of}
use Rattle.monitor.specs.Stepping.{result_in}
use Rattle.reach.specs.declared.Reach.{Reach}
use Rattle.reach.specs.Reaching.{reach_fault, ReachReply}
use Rattle.agreement.specs.Agreeing.{touching_in, Agree, results_of_rule}
use Rattle.demands.specs.Monitors.{Machine, reply_to}

-- a reach: the marks of an entry of a table
abbrev pub Reacher : Type 0
Reacher = Table → ℕ → Reach

-- "the reach shown is the least set"; 29 and 30 come with no marks
abbrev pub ShowsTheLeast : Reacher → Type 0
ShowsTheLeast reacher = (t : Table) (k : ℕ) → ReachReply t k (reach_fault t k) (reacher t k)

-- a result is kept where the step was accepted
abbrev pub given_if : Answer → Outcome → List Outcome → List Outcome
given_if (Ok _) o earlier = o ∷ earlier
given_if (Err r) o earlier = earlier

-- what a monitor gave a rule at every step that it accepted, from a fresh start; the latest first
unfoldable pub given_to : Machine → Table → ℕ → List (List ℕ) → List Outcome
given_to machine t k [] = []
given_to machine t k (bytes ∷ before) =
    let reply = reply_to machine t before bytes in
    given_if reply.answer (result_in reply.results k) (given_to machine t k before)

-- "where they agree, accepted step by accepted step, ... the logic of demand 2 gives that rule the same result at every accepted step"
abbrev pub SameInTheLogic : Reacher → Table → Type 0
SameInTheLogic reacher t = (k : ℕ) → k < t.n → (a b : List (List ℕ)) → Agree (touching_in (reacher t k)) (history_of t a) (history_of t b)
    → results_of_rule t k (history_of t a) ≡ results_of_rule t k (history_of t b)

-- "and so does the monitor"
abbrev pub SameInTheMonitor : Machine → Reacher → Table → Type 0
SameInTheMonitor machine reacher t = (k : ℕ) → k < t.n → (a b : List (List ℕ)) → Agree (touching_in (reacher t k)) (history_of t a) (history_of t b)
    → given_to machine t k a ≡ given_to machine t k b

-- demand 3: every sound table, any entry of it for a rule, any two lists of byte strings
pub record DependsOnReach (machine : Machine) (reacher : Reacher) : Type 0 where
  pub least : ShowsTheLeast reacher
  pub logic : (t : Table) → Shaped t → table_fault t ≡ Ok tt → SameInTheLogic reacher t
  pub monitor : (t : Table) → Shaped t → table_fault t ≡ Ok tt → SameInTheMonitor machine reacher t
