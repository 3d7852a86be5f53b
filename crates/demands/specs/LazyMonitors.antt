-- Lazy monitors, and the statement that stops each: every start and step with the fault named is stopped, not one example of it.
use Rattle.std.specs.Prelude.{true, false, List, [], ◌∷◌, ◌≡◌, refl, ℕ, ◌+◌, ◌^◌, Ok, Err}
use Rattle.std.proofs.Common.{sym, ◌∙◌, ap, arith}
use Rattle.values.specs.declared.Truth.{Truth}
use Rattle.values.specs.declared.Outcome.{Outcome}
use Rattle.values.specs.declared.Slot.{Slot}
use Rattle.refusals.specs.declared.Refusal.{Refusal}
use Rattle.refusals.specs.Answers.{Answer}
use Rattle.bits.specs.Bits.{the_bits}
use Rattle.bits.specs.Twos.{the_twos}
use Rattle.bits.specs.Reading.{answered}
use Rattle.table.specs.declared.Table.{Table}
use Rattle.table.specs.Faults.{the_faults}
use Rattle.step.specs.Reader.{the_step}
use Rattle.history.specs.History.{Judge, result_by, the_logic}
use Rattle.history.specs.Offered.{offered, history_of}
use Rattle.history.specs.Marked.{start_and_end}
use Rattle.monitor.specs.declared.Monitor.{Monitor}
use Rattle.monitor.specs.Keeping.{unsound, start_on, the_keeping}
use Rattle.monitor.specs.Stepping.{result_in, step_of, the_stepping}
use Rattle.cases.specs.Gate.{gate}
use Rattle.cases.specs.Misleading.{undefined_for_false, updates_last}
use Rattle.demands.specs.Monitors.{Machine, after, reply_to, heard, results_for, SaysTheLogic, AnswersAsDefined, NeverUnsound, Knows, KnowsTheHistory}

-- steps for the table of a condition, its start and its end: the condition is reported true, or false, at a time
abbrev true_at1 : List ℕ
true_at1 = 0x00 ∷ 0x00 ∷ 0x00 ∷ 0x00 ∷ 0x00 ∷ 0x02 ∷ 0x08 ∷ 0x08 ∷ []

abbrev true_at2 : List ℕ
true_at2 = 0x00 ∷ 0x00 ∷ 0x00 ∷ 0x00 ∷ 0x00 ∷ 0x04 ∷ 0x08 ∷ 0x08 ∷ []

abbrev false_at1 : List ℕ
false_at1 = 0x00 ∷ 0x00 ∷ 0x00 ∷ 0x00 ∷ 0x00 ∷ 0x02 ∷ 0x08 ∷ 0x00 ∷ []

-- the demand is made of both tables that are used here
pub asked : (machine : Machine) → KnowsTheHistory machine → Knows machine start_and_end × Knows machine gate
unfolding the_faults
asked machine demand = (
  demand.sound start_and_end (record { entries = refl; events = refl; variables = refl }) refl,
  demand.sound gate (record { entries = refl; events = refl; variables = refl }) refl,
)

-- what the logic says of an entry at the last of byte strings
abbrev said_of : Table → List (List ℕ) → List ℕ → ℕ → Outcome
said_of t before bytes k = result_in (results_for t (history_of t before) (heard t before bytes)) k

-- "true at the first step: start occurs"; true again: it does not
start_once : (said_of start_and_end [] true_at1 1 ≡ Outcome.Event true) × ((said_of start_and_end [] true_at2 1 ≡ Outcome.Event true) × (said_of start_and_end (true_at1 ∷ []) true_at2 1 ≡ Outcome.Event false))
unfolding the_bits the_twos the_faults the_step the_logic offered history_of
start_once = (refl, (refl, refl))

-- each is accepted
each_heard : (answered (heard start_and_end [] true_at1) ≡ Ok tt) × (answered (heard start_and_end (true_at1 ∷ []) true_at2) ≡ Ok tt)
unfolding the_bits the_twos the_faults the_step the_logic offered history_of
each_heard = (refl, refl)

-- an event occurs or it doesn't
not_both : {o : Outcome} → o ≡ Outcome.Event true → o ≡ Outcome.Event false → ⊥
not_both is isnt = let z : ◌≡◌ {A = ℕ} 0 1 = cc in omega arith

-- what a machine that says the logic gives at an entry
gives : (machine : Machine) (t : Table) → SaysTheLogic machine t → (before : List (List ℕ)) (bytes : List ℕ) (k : ℕ)
    → result_in (reply_to machine t before bytes).results k ≡ said_of t before bytes k
gives machine t says before bytes k = ap (λ (results : List Slot). result_in results k) (says before bytes)

-- "works at the first step and repeats itself after"
abbrev pub RepeatsTheFirst : Machine → Table → Type 0
RepeatsTheFirst machine t = (first next : List ℕ) → (reply_to machine t [] first).answer ≡ Ok tt
    → (reply_to machine t (first ∷ []) next).answer ≡ Ok tt → (reply_to machine t (first ∷ []) next).results ≡ (reply_to machine t [] first).results

pub repeats_stopped : (machine : Machine) → SaysTheLogic machine start_and_end → AnswersAsDefined machine start_and_end → RepeatsTheFirst machine start_and_end → ⊥
repeats_stopped machine says answers repeats =
    let same = repeats true_at1 true_at2 (answers [] true_at1 ∙ each_heard.0) (answers (true_at1 ∷ []) true_at2 ∙ each_heard.1) in
    not_both (gives machine start_and_end says [] true_at1 1 ∙ start_once.0) (ap (λ (results : List Slot). result_in results 1) (sym same) ∙ gives machine start_and_end says (true_at1 ∷ []) true_at2 1 ∙ start_once.1.1)

-- "gives every step the same results"
abbrev pub SameResults : Machine → Table → Type 0
SameResults machine t = (before later : List (List ℕ)) (x y : List ℕ) → (reply_to machine t before x).answer ≡ Ok tt
    → (reply_to machine t later y).answer ≡ Ok tt → (reply_to machine t before x).results ≡ (reply_to machine t later y).results

pub same_results_stopped : (machine : Machine) → SaysTheLogic machine start_and_end → AnswersAsDefined machine start_and_end → SameResults machine start_and_end → ⊥
same_results_stopped machine says answers same =
    repeats_stopped machine says answers (λ first next one two. same (first ∷ []) [] next first two one)

-- "one whose step does nothing"
abbrev pub DoesNothing : Machine → Type 0
DoesNothing machine = (m : Monitor) (bytes : List ℕ) → (machine.step m bytes).monitor ≡ m

pub does_nothing_stopped : (machine : Machine) → SaysTheLogic machine start_and_end → DoesNothing machine → ⊥
unfolding after
does_nothing_stopped machine says nothing =
    let fresh = gives machine start_and_end says [] true_at2 1 ∙ start_once.1.0 in
    let later = gives machine start_and_end says (true_at1 ∷ []) true_at2 1 ∙ start_once.1.1 in
    not_both fresh (ap (λ (m : Monitor). result_in (machine.step m true_at2).results 1) (sym (nothing (machine.start start_and_end).monitor true_at1)) ∙ later)

-- "A start ... that leaves a monitor which then refuses everything"
abbrev pub StuckAfterStart : Machine → Table → Type 0
StuckAfterStart machine t = (bytes : List ℕ) → (reply_to machine t [] bytes).answer ≡ Ok tt → ⊥

pub stuck_start_stopped : (machine : Machine) → AnswersAsDefined machine start_and_end → StuckAfterStart machine start_and_end → ⊥
stuck_start_stopped machine answers stuck = stuck true_at1 (answers [] true_at1 ∙ each_heard.0)

-- "or a step that leaves a monitor which then refuses everything": an accepted step
abbrev pub StuckAfterStep : Machine → Table → Type 0
StuckAfterStep machine t = (first next : List ℕ) → (reply_to machine t [] first).answer ≡ Ok tt
    → (reply_to machine t (first ∷ []) next).answer ≡ Ok tt → ⊥

pub stuck_step_stopped : (machine : Machine) → AnswersAsDefined machine start_and_end → StuckAfterStep machine start_and_end → ⊥
stuck_step_stopped machine answers stuck = stuck true_at1 true_at2 (answers [] true_at1 ∙ each_heard.0) (answers (true_at1 ∷ []) true_at2 ∙ each_heard.1)

-- "breaks the rule that neither's monitor falls under 29": a monitor whose last time is out of range
abbrev jammed : Monitor → Monitor
jammed m = record { table = m.table; last = 2 ^ 47 + 1; reported = m.reported; held = m.held; cells = m.cells }

-- our start and step, but the start jams its monitor
abbrev pub jams_at_start : Machine
jams_at_start = record { start = λ t. record { answer = (start_on t).answer; monitor = jammed (start_on t).monitor }; step = step_of }

-- our start and step, but the step jams its monitor
abbrev pub jams_at_step : Machine
jams_at_step =
    record {
      start = start_on;
      step = λ m bytes. record { answer = (step_of m bytes).answer; monitor = jammed (step_of m bytes).monitor; results = (step_of m bytes).results };
    }

jams : (unsound (after jams_at_start start_and_end []) ≡ Err Refusal.Unsound) × (unsound (after jams_at_step start_and_end (true_at1 ∷ [])) ≡ Err Refusal.Unsound)
unfolding the_bits the_twos the_faults the_step the_keeping the_stepping after
jams = (refl, refl)

-- accepted or refused
not_refused : {a : Answer} {r : Refusal} → a ≡ Ok tt → a ≡ Err r → ⊥
not_refused accepted refused = let z : ◌≡◌ {A = ℕ} 0 1 = cc in omega arith

pub jams_stopped : (NeverUnsound jams_at_start start_and_end → ⊥) × (NeverUnsound jams_at_step start_and_end → ⊥)
jams_stopped = (λ never. not_refused (never []) jams.0, λ never. not_refused (never (true_at1 ∷ [])) jams.1)

-- a machine whose results, at every accepted step, are those of another judge than document 01's; a refused step may have any
abbrev pub JudgesBy : Judge → Machine → Table → Type 0
JudgesBy by machine t = (before : List (List ℕ)) (bytes : List ℕ) (k : ℕ) → answered (heard t before bytes) ≡ Ok tt
    → result_in (reply_to machine t before bytes).results k ≡ result_by by t (history_of t (bytes ∷ before)) k

-- "false at the first step: end occurs"; where undefined is taken for false, it does not
end_at_once : (said_of start_and_end [] false_at1 2 ≡ Outcome.Event true)
    × ((result_by undefined_for_false start_and_end (history_of start_and_end (false_at1 ∷ [])) 2 ≡ Outcome.Event false)
    × (answered (heard start_and_end [] false_at1) ≡ Ok tt))
unfolding the_bits the_twos the_faults the_step the_logic offered history_of undefined_for_false
end_at_once = (refl, (refl, refl))

-- "Taking undefined for false"
pub undefined_for_false_stopped : (machine : Machine) → SaysTheLogic machine start_and_end → JudgesBy undefined_for_false machine start_and_end → ⊥
undefined_for_false_stopped machine says judges = not_both (gives machine start_and_end says [] false_at1 2 ∙ end_at_once.0) (judges [] false_at1 2 end_at_once.1.1 ∙ end_at_once.1.0)

-- two closings of document 003's gate, as they are offered: 1000 closed, not down; 5000 down; 90000 opened, not down; 100000 closed
abbrev earlier_steps : List (List ℕ)
earlier_steps =
    (0x00 ∷ 0x00 ∷ 0x00 ∷ 0x02 ∷ 0xBF ∷ 0x20 ∷ 0x10 ∷ 0x00 ∷ 0x80 ∷ [])
    ∷ (0x00 ∷ 0x00 ∷ 0x00 ∷ 0x00 ∷ 0x27 ∷ 0x10 ∷ 0x08 ∷ 0x48 ∷ [])
    ∷ (0x00 ∷ 0x00 ∷ 0x00 ∷ 0x00 ∷ 0x07 ∷ 0xD0 ∷ 0x10 ∷ 0x20 ∷ 0x80 ∷ [])
    ∷ []

abbrev second_closing : List ℕ
second_closing = 0x00 ∷ 0x00 ∷ 0x00 ∷ 0x03 ∷ 0x0D ∷ 0x40 ∷ 0x08 ∷ 0x20 ∷ []

-- the gate has only just been told to close; a read that sees no update of this step calls it late
gate_in_time : (said_of gate earlier_steps second_closing 16 ≡ Outcome.Property Truth.True)
    × ((result_by updates_last gate (history_of gate (second_closing ∷ earlier_steps)) 16 ≡ Outcome.Property Truth.False)
    × (answered (heard gate earlier_steps second_closing) ≡ Ok tt))
unfolding the_bits the_twos the_faults the_step the_logic offered history_of updates_last
gate_in_time = (refl, (refl, refl))

-- "Evaluating all conditions before all updates"
pub updates_last_stopped : (machine : Machine) → SaysTheLogic machine gate → JudgesBy updates_last machine gate → ⊥
updates_last_stopped machine says judges =
    let right = gives machine gate says earlier_steps second_closing 16 ∙ gate_in_time.0 in
    let wrong = judges earlier_steps second_closing 16 gate_in_time.1.1 ∙ gate_in_time.1.0 in
    let z : ◌≡◌ {A = ℕ} 0 1 = cc in
    omega arith
