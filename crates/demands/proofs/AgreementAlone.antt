-- "A monitor that gives every step the same results ... meet[s] demand 3's agreement alone": so does a reach that marks everything.
use Rattle.std.specs.Prelude.{true, ◌≡◌, T}
use mathlib.Core.List.{List, [], ◌∷◌}
use Rattle.std.proofs.Math.Path.{refl, sym, ap}
use Rattle.std.proofs.Common.{◌∙◌, arith, Ok, Err}
use Prim.Native.Nat.{ℕ, suc}
use Rattle.std.proofs.Math.ListN.{length, replicate}
use Rattle.values.specs.declared.Outcome.{Outcome}
use Rattle.values.specs.declared.Slot.{Slot}
use Rattle.refusals.specs.Answers.{Answer}
use Rattle.bits.specs.Reading.{Got, got, refused, answered}
use Rattle.table.specs.declared.Table.{Table}
use Rattle.table.specs.Faults.{table_fault}
use Rattle.table.specs.Sound.{sound_table}
use Rattle.step.specs.Steps.{Step}
use Rattle.history.specs.History.{History}
use Rattle.history.specs.Offered.{grown, history_of}
use Rattle.monitor.specs.Stepping.{result_in}
use Rattle.reach.specs.Reaching.{Entries}
use Rattle.reach.proofs.Shown.{reached_below}
use Rattle.agreement.specs.Agreeing.{Touching, Agree, touching_in, touching_by}
use Rattle.agreement.proofs.Same.{same_results}
use Rattle.demands.specs.Monitors.{Machine, reply_to, heard, AnswersAsDefined}
use Rattle.demands.specs.LazyMonitors.{SameResults}
use Rattle.demands.specs.Reaches.{Reacher, given_if, given_to, SameInTheLogic, SameInTheMonitor}
use Rattle.demands.specs.LazyReaches.{MarksEverything}

-- two histories that agree have as many steps
agree_length : (r : Touching) (g h : History) → Agree r g h → length g ≡ length h
agree_length r [] [] agree = refl
agree_length r [] (b ∷ h) agree = absurd agree
agree_length r (a ∷ g) [] agree = absurd agree
agree_length r (a ∷ g) (b ∷ h) agree = ap suc (agree_length r g h agree.1)

-- a list of as many
none_left : (l : List Outcome) → length l ≡ 0 → l ≡ []
none_left [] none = refl
none_left (x ∷ l) none = absurd (omega arith)

module _ (machine : Machine) (t : Table) (k : ℕ) where
  -- what it gives a rule at a step
  abbrev giving : List (List ℕ) → List ℕ → Outcome
  giving before bytes = result_in (reply_to machine t before bytes).results k

  -- as many results as accepted steps
  given_length : AnswersAsDefined machine t → (offered : List (List ℕ)) → length (given_to machine t k offered) ≡ length (history_of t offered)
  unfolding given_to history_of
  given_length answers [] = refl
  given_length answers (bytes ∷ before) = by _ (heard t before bytes) refl (given_length answers before)
    where
      by : (o : Outcome) (g : Got Step) → heard t before bytes ≡ g → length (given_to machine t k before) ≡ length (history_of t before)
          → length (given_if (reply_to machine t before bytes).answer o (given_to machine t k before)) ≡ length (grown (history_of t before) g)
      by o (got s end) e same = ap (λ (a : Answer). length (given_if a o (given_to machine t k before))) (answers before bytes ∙ ap answered e) ∙ ap suc same
      by o (refused r) e same = ap (λ (a : Answer). length (given_if a o (given_to machine t k before))) (answers before bytes ∙ ap answered e) ∙ same

  module _ (alike : SameResults machine t) where
    -- once a step is accepted, every accepted step gives what it gives
    all_alike : (first : List (List ℕ)) (step : List ℕ) → (reply_to machine t first step).answer ≡ Ok tt → (offered : List (List ℕ))
        → given_to machine t k offered ≡ replicate (length (given_to machine t k offered)) (giving first step)
    unfolding given_to
    all_alike first step accepted [] = refl
    all_alike first step accepted (bytes ∷ before) = by (reply_to machine t before bytes).answer refl (all_alike first step accepted before)
      where
        by : (a : Answer) → (reply_to machine t before bytes).answer ≡ a → given_to machine t k before ≡ replicate (length (given_to machine t k before)) (giving first step)
            → given_if a (giving before bytes) (given_to machine t k before) ≡ replicate (length (given_if a (giving before bytes) (given_to machine t k before))) (giving first step)
        by (Ok _) e same = λ i. ap (λ (results : List Slot). result_in results k) (alike before first bytes step e accepted) i ∷ same i
        by (Err r) e same = same

    -- so two streams of as many accepted steps are given the same
    as_many : (a b : List (List ℕ)) → length (given_to machine t k a) ≡ length (given_to machine t k b) → given_to machine t k a ≡ given_to machine t k b
    unfolding given_to
    as_many [] b many = sym (none_left (given_to machine t k b) (sym many))
    as_many (bytes ∷ before) b many = by (reply_to machine t before bytes).answer refl (as_many before b) many
      where
        by : (a : Answer) → (reply_to machine t before bytes).answer ≡ a
            → (length (given_to machine t k before) ≡ length (given_to machine t k b) → given_to machine t k before ≡ given_to machine t k b)
            → length (given_if a (giving before bytes) (given_to machine t k before)) ≡ length (given_to machine t k b)
            → given_if a (giving before bytes) (given_to machine t k before) ≡ given_to machine t k b
        by (Ok _) e earlier same =
            (λ i. giving before bytes ∷ all_alike before bytes e before i)
            ∙ ap (λ (n : ℕ). replicate n (giving before bytes)) same
            ∙ sym (all_alike before bytes e b)
        by (Err r) e earlier same = earlier same

-- "gives every step the same results": whatever the reach shows, it agrees
pub same_results_agree : (machine : Machine) (t : Table) → AnswersAsDefined machine t → SameResults machine t → (reacher : Reacher) → SameInTheMonitor machine reacher t
same_results_agree machine t answers alike reacher k there a b agree =
    as_many machine t k alike a b
    (given_length machine t k answers a ∙ agree_length (touching_in (reacher t k)) (history_of t a) (history_of t b) agree ∙ sym (given_length machine t k answers b))

-- two histories that agree on more agree on less
agree_less : (a b : Touching) → ((i : ℕ) → T (b.imports i) → T (a.imports i)) → (T b.clock → T a.clock) → (g h : History) → Agree a g h → Agree b g h
agree_less a b imports clock [] [] agree = tt
agree_less a b imports clock [] (y ∷ h) agree = absurd agree
agree_less a b imports clock (x ∷ g) [] agree = absurd agree
agree_less a b imports clock (x ∷ g) (y ∷ h) agree = (
  record { reports = λ i reached. agree.0.reports i (imports i reached); times = λ reached. agree.0.times (clock reached) },
  agree_less a b imports clock g h agree.1,
)

-- "A reach that marks everything" agrees, and only "least" stops it
pub everything_agrees : (reacher : Reacher) (t : Table) → table_fault t ≡ Ok tt → MarksEverything reacher t → SameInTheLogic reacher t
everything_agrees reacher t good everything k there a b agree =
    let all : Entries = λ j. true in
    same_results t good all (λ j o hj ho held led. tt) (history_of t a) (history_of t b)
    (agree_less (touching_in (reacher t k)) (touching_by t all) (λ i reached. everything.imports k i there (reached_below t (sound_table t good) all i reached))
    (λ reached. everything.clock k there) (history_of t a) (history_of t b) agree)
    k there tt
