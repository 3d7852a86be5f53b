-- Demand 3 follows from demand 2 and the least set: proved of every machine that knows the history and every reach that shows the least set, so of ours.
use Rattle.std.specs.Prelude.{List, [], ◌∷◌, ◌≡◌, refl, ℕ}
use Rattle.std.proofs.Common.{sym, ◌∙◌, ap, Ok}
use Rattle.refusals.specs.Answers.{Answer}
use Rattle.bits.specs.Reading.{Got, got, refused, answered}
use Rattle.table.specs.declared.Table.{Table}
use Rattle.table.specs.Faults.{table_fault}
use Rattle.table.specs.Tables.{Shaped}
use Rattle.script.specs.Reader.{script_of}
use Rattle.roundtrip.proofs.ReadAgain.{read_shaped, read_sound}
use Rattle.step.specs.Steps.{Step}
use Rattle.history.specs.Offered.{grown, history_of}
use Rattle.monitor.specs.Stepping.{result_in}
use Rattle.reach.specs.Spreading.{reach_of}
use Rattle.reach.proofs.Shown.{reply_worked_out}
use Rattle.agreement.specs.Agreeing.{results_of_rule}
use Rattle.agreement.proofs.Same.{shown_same}
use Rattle.demands.specs.Monitors.{Machine, reply_to, heard, SaysTheLogic, AnswersAsDefined, KnowsTheHistory, our_machine}
use Rattle.demands.proofs.Knows.{each_result, ours_knows}
use Rattle.demands.specs.LazyReaches.{shown}
use Rattle.demands.specs.Reaches.{Reacher, ShowsTheLeast, given_if, given_to, SameInTheLogic, SameInTheMonitor, DependsOnReach}

-- a machine that knows the history gives a rule, at every step that it accepts, what the logic says
pub given_logic : (machine : Machine) (t : Table) → SaysTheLogic machine t → AnswersAsDefined machine t → (k : ℕ) (offered : List (List ℕ))
    → given_to machine t k offered ≡ results_of_rule t k (history_of t offered)
unfolding given_to results_of_rule history_of
given_logic machine t says answers k [] = refl
given_logic machine t says answers k (bytes ∷ before) = by (heard t before bytes) refl (given_logic machine t says answers k before)
  where
    answer : (g : Got Step) → heard t before bytes ≡ g → given_if (reply_to machine t before bytes).answer (result_in (reply_to machine t before bytes).results k) (given_to machine t k before)
        ≡ given_if (answered g) (result_in (reply_to machine t before bytes).results k) (given_to machine t k before)
    answer g e = ap (λ (a : Answer). given_if a (result_in (reply_to machine t before bytes).results k) (given_to machine t k before)) (answers before bytes ∙ ap answered e)

    by : (g : Got Step) → heard t before bytes ≡ g → given_to machine t k before ≡ results_of_rule t k (history_of t before)
        → given_if (reply_to machine t before bytes).answer (result_in (reply_to machine t before bytes).results k) (given_to machine t k before)
        ≡ results_of_rule t k (grown (history_of t before) g)
    by (got s end) e earlier = answer (got s end) e ∙ (λ i. each_result machine t says before bytes s end e k i ∷ earlier i)
    by (refused r) e earlier = answer (refused r) e ∙ earlier

-- "Two streams that agree on what a rule reaches give it the same results, in the logic and in the monitor"
pub least_suffices : (machine : Machine) → KnowsTheHistory machine → (reacher : Reacher) → ShowsTheLeast reacher → DependsOnReach machine reacher
least_suffices machine knows reacher least = record { least = least; logic = λ t shaped good. in_logic t good; monitor = in_monitor }
  where
    in_logic : (t : Table) → table_fault t ≡ Ok tt → SameInTheLogic reacher t
    in_logic t good k there a b = shown_same t good k there (reacher t k) (shown reacher least t good k there) (history_of t a) (history_of t b)

    in_monitor : (t : Table) → Shaped t → table_fault t ≡ Ok tt → SameInTheMonitor machine reacher t
    in_monitor t shaped good k there a b agree =
        let known = knows.sound t shaped good in
        given_logic machine t known.results known.answers k a
        ∙ in_logic t good k there a b agree
        ∙ sym (given_logic machine t known.results known.answers k b)

-- demand 3, of ours
pub ours_depends : DependsOnReach our_machine reach_of
ours_depends = least_suffices our_machine ours_knows reach_of reply_worked_out

-- "take one script": its table is sound, so all of this holds of it
pub of_a_script : (machine : Machine) (reacher : Reacher) → DependsOnReach machine reacher → (script : List ℕ) (t : Table) (end : ℕ) → script_of script ≡ got t end
    → SameInTheLogic reacher t × SameInTheMonitor machine reacher t
of_a_script machine reacher depends script t end e =
    let shaped = read_shaped script t end e in
    let good = read_sound script t end e in
    (depends.logic t shaped good, depends.monitor t shaped good)
