-- Lazy and misled reaches, and the statement that stops each: every reach with the fault named is stopped, not one example of it.
use Rattle.std.specs.Prelude.{Bool, true, false, ◌&&◌, List, [], ◌∷◌, ◌≡◌, refl, ℕ, zero, suc, ◌<◌, T, eqb, pos, get_or, Ok}
use Rattle.std.proofs.Math.Bool.{and-false}
use Rattle.std.proofs.Common.{sym, ◌∙◌, subst, arith, lit<, lt-ltb}
use Rattle.std.proofs.Math.Dec.{eqb-suc-zero}
use Rattle.values.specs.declared.Number.{Number}
use Rattle.values.specs.declared.Outcome.{Outcome}
use Rattle.refusals.specs.Answers.{Answer}
use Rattle.bits.specs.Bits.{the_bits}
use Rattle.bits.specs.Twos.{the_twos}
use Rattle.table.specs.declared.Entry.{Entry}
use Rattle.table.specs.declared.Entry.TheVariants.{ImportedEvent, Time}
use Rattle.table.specs.declared.Table.{Table}
use Rattle.table.specs.Kinds.{kind_of, operands_of, update_of}
use Rattle.table.specs.Tables.{entry_at}
use Rattle.table.specs.Below.{some_below, some_found, some_here, both_parts, both_joined}
use Rattle.table.specs.Faults.{table_fault, unsound_table, the_faults}
use Rattle.step.specs.Steps.{Step}
use Rattle.step.specs.Reader.{the_step}
use Rattle.history.specs.History.{the_logic}
use Rattle.history.specs.Offered.{offered, history_of}
use Rattle.history.specs.Marked.{rules, start_and_end, read_then_update}
use Rattle.reach.specs.Reaching.{reach_fault, ReachReply, Shows, Entries, is_operand, is_read, leads_to, Closed, Least, names_import, reaches_import, reaches_clock, reads_clock, marked_in}
use Rattle.agreement.specs.Agreeing.{touching_in, StepsAgree, results_of_rule}
use Rattle.cases.specs.Misleading.{earlier_only}
use Rattle.cases.proofs.Differing.{wrong_least, reading_4_differs}
use Rattle.demands.specs.Reaches.{Reacher, ShowsTheLeast, SameInTheLogic}

-- what a reach that shows the least set shows of an entry of a sound table
pub shown : (reacher : Reacher) → ShowsTheLeast reacher → (t : Table) → table_fault t ≡ Ok tt → (k : ℕ) → k < t.n → Shows t k (reacher t k)
unfolding reach_fault unsound_table
shown reacher least t good k there =
    let asked : reach_fault t k ≡ Ok tt = rw (good, lt-ltb k t.n there) refl in
    (subst (λ (a : Answer). ReachReply t k a (reacher t k)) asked (least t k)).1

-- an event import and the time of its latest occurrence
abbrev pub timed : Table
timed = rules (true ∷ []) [] (ImportedEvent 0 ∷ Time 0 ∷ [])

-- "A reach that marks everything": every entry, every import and the clock
pub record MarksEverything (reacher : Reacher) (t : Table) : Type 0 where
  pub entries : (k j : ℕ) → k < t.n → j < t.n → T (marked_in (reacher t k) j)
  pub imports : (k i : ℕ) → k < t.n → i < t.q → T (get_or (reacher t k).imports i false)
  pub clock : (k : ℕ) → k < t.n → T (reacher t k).clock

-- the tables that are used here are sound
each_sound : (table_fault start_and_end ≡ Ok tt) × ((table_fault read_then_update ≡ Ok tt) × (table_fault timed ≡ Ok tt))
unfolding the_faults
each_sound = (refl, (refl, refl))

-- the first entry alone, a condition import, is a closed set of the table of a condition, its start and its end
abbrev condition_alone : Entries
condition_alone j = eqb j 0

condition_alone_closed : Closed (leads_to start_and_end) 3 condition_alone
unfolding leads_to is_operand is_read entry_at operands_of update_of
condition_alone_closed zero zero hj ho inside leads = tt
condition_alone_closed zero (suc zero) hj ho inside leads = absurd leads
condition_alone_closed zero (suc (suc zero)) hj ho inside leads = absurd leads
condition_alone_closed zero (suc (suc (suc o))) hj ho inside leads = absurd (not_below ho)
  where
    not_below : suc (suc (suc o)) < 3 → ⊥
    not_below below = omega arith
condition_alone_closed (suc j) o hj ho inside leads = absurd (rw (eqb-suc-zero j) at inside)

-- "breaks the word 'least' in demand 3": the start, entry 1, is not in the reach of the condition
pub marks_everything_stopped : (reacher : Reacher) → ShowsTheLeast reacher → MarksEverything reacher start_and_end → ⊥
marks_everything_stopped reacher least everything =
    (shown reacher least start_and_end each_sound.0 0 (lit< tt)).entries.least condition_alone tt condition_alone_closed 1 (lit< tt)
    (everything.entries 0 1 (lit< tt) (lit< tt))

-- a reach worked out by another rule of what leads to what, or of what looks at the clock
pub record ShowsBy (leads : Table → ℕ → ℕ → Bool) (clocked : Entry → Bool) (reacher : Reacher) (t : Table) (k : ℕ) : Type 0 where
  pub entries : Least (leads t) t.n k (marked_in (reacher t k))
  pub imports : (i : ℕ) → get_or (reacher t k).imports i false ≡ reaches_import t (marked_in (reacher t k)) i
  pub clock : (reacher t k).clock ≡ some_below t.n (λ j. marked_in (reacher t k) j && clocked (entry_at t j))

-- "Following only the updates that stand before a read": P12's read of a variable that is updated after it
abbrev pub FollowsEarlierOnly : Reacher → Type 0
FollowsEarlierOnly reacher = ShowsBy earlier_only (reads_clock read_then_update) reacher read_then_update 0

-- it isn't the least set
pub earlier_only_stopped : (reacher : Reacher) → ShowsTheLeast reacher → FollowsEarlierOnly reacher → ⊥
earlier_only_stopped reacher least wrong =
    let differs = reading_4_differs (marked_in (reacher read_then_update 0)) (marked_in (reacher read_then_update 0)) (shown reacher least read_then_update each_sound.1.0 0 (lit< tt)).entries wrong.entries in
    differs.1 differs.0

-- byte strings offered as steps: at time 1 or 2, with the event or with no report
abbrev event_at1 : List ℕ
event_at1 = 0x00 ∷ 0x00 ∷ 0x00 ∷ 0x00 ∷ 0x00 ∷ 0x02 ∷ 0x08 ∷ 0x00 ∷ []

abbrev event_at2 : List ℕ
event_at2 = 0x00 ∷ 0x00 ∷ 0x00 ∷ 0x00 ∷ 0x00 ∷ 0x04 ∷ 0x08 ∷ 0x00 ∷ []

abbrev silent_at1 : List ℕ
silent_at1 = 0x00 ∷ 0x00 ∷ 0x00 ∷ 0x00 ∷ 0x00 ∷ 0x02 ∷ 0x00 ∷ []

abbrev silent_at2 : List ℕ
silent_at2 = 0x00 ∷ 0x00 ∷ 0x00 ∷ 0x00 ∷ 0x00 ∷ 0x04 ∷ 0x00 ∷ []

-- "A later update is seen one step on": the rule sees 7 in the one stream and 5 in the other
later_seen : (results_of_rule read_then_update 0 (history_of read_then_update (silent_at2 ∷ event_at1 ∷ [])) ≡ Outcome.Numeric (Number.Whole (pos 7)) ∷ Outcome.Numeric (Number.Whole (pos 5)) ∷ [])
    × (results_of_rule read_then_update 0 (history_of read_then_update (silent_at2 ∷ silent_at1 ∷ [])) ≡ Outcome.Numeric (Number.Whole (pos 5)) ∷ Outcome.Numeric (Number.Whole (pos 5)) ∷ [])
unfolding the_bits the_twos the_faults the_step the_logic offered history_of results_of_rule
later_seen = (refl, refl)

-- by that rule the read is marked alone, and it names no import and has no clock
read_alone_lem : (reacher : Reacher) → FollowsEarlierOnly reacher → (p : Entry → Bool) → p (entry_at read_then_update 0) ≡ false
    → T (some_below 4 (λ j. marked_in (reacher read_then_update 0) j && p (entry_at read_then_update j))) → ⊥
read_alone_lem reacher wrong p none some =
    let found = some_found 4 (λ j. marked_in (reacher read_then_update 0) j && p (entry_at read_then_update j)) some in
    let parts = both_parts (marked_in (reacher read_then_update 0) found.0) (p (entry_at read_then_update found.0)) found.2 in
    only found.0 (wrong.entries.least (λ j. eqb j 0) tt wrong_least.closed found.0 found.1 parts.0) parts.1
  where
    only : (j : ℕ) → T (eqb j 0) → T (p (entry_at read_then_update j)) → ⊥
    only zero first holds = rw none at holds
    only (suc j) first holds = rw (eqb-suc-zero j) at first

-- so two streams of as many steps agree on all that it shows
agree_on_nothing : (reacher : Reacher) → FollowsEarlierOnly reacher → (a b : Step) → StepsAgree (touching_in (reacher read_then_update 0)) a b
unfolding reaches_import names_import entry_at operands_of kind_of reads_clock
agree_on_nothing reacher wrong a b =
    record {
      reports = λ i reached. absurd (read_alone_lem reacher wrong (λ e. names_import (operands_of e) i) refl (subst T (wrong.imports i) reached));
      times = λ reached. absurd (read_alone_lem reacher wrong (reads_clock read_then_update) refl (subst T wrong.clock reached));
    }

-- and the rule's results differ: it breaks demand 3's agreement too
pub earlier_only_disagrees : (reacher : Reacher) → FollowsEarlierOnly reacher → SameInTheLogic reacher read_then_update → ⊥
unfolding the_bits the_twos the_faults the_step offered history_of
earlier_only_disagrees reacher wrong same =
    let agree : (a b : Step) → StepsAgree (touching_in (reacher read_then_update 0)) a b = agree_on_nothing reacher wrong in
    let alike = same 0 (lit< tt) (silent_at2 ∷ event_at1 ∷ []) (silent_at2 ∷ silent_at1 ∷ []) (agree _ _, (agree _ _, tt)) in
    let z : ◌≡◌ {A = ℕ} 7 5 = cc (sym later_seen.0 ∙ alike ∙ later_seen.1) in
    omega arith

-- "the clock exactly if the set holds kind 19 or 21": one that leaves out kind 21
abbrev pub LeavesOutTimes : Reacher → Type 0
LeavesOutTimes reacher = ShowsBy leads_to (λ e. eqb (kind_of e) 19) reacher timed 1

-- no entry of that table has kind 19, and entry 1 has kind 21
no_clock : (S : Entries) → some_below 2 (λ j. S j && eqb (kind_of (entry_at timed j)) 19) ≡ false
unfolding some_below entry_at kind_of
no_clock S = rw (and-false (S 0), and-false (S 1)) refl

a_time : (S : Entries) → T (S 1) → T (reaches_clock timed S)
unfolding reaches_clock reads_clock entry_at kind_of
a_time S held = some_here 2 (λ j. S j && reads_clock timed (entry_at timed j)) 1 (lit< tt) (both_joined (S 1) true held tt)

-- what it shows of the clock is not the least set's
pub no_times_stopped : (reacher : Reacher) → ShowsTheLeast reacher → LeavesOutTimes reacher → ⊥
no_times_stopped reacher least wrong =
    let right = shown reacher least timed each_sound.1.1 1 (lit< tt) in
    subst T (sym right.clock ∙ wrong.clock ∙ no_clock (marked_in (reacher timed 1))) (a_time (marked_in (reacher timed 1)) right.entries.holds)

-- the rule gives the time of the event, 1 in the one stream and 2 in the other
times_seen : (results_of_rule timed 1 (history_of timed (event_at1 ∷ [])) ≡ Outcome.Numeric (Number.Whole (pos 1)) ∷ [])
    × (results_of_rule timed 1 (history_of timed (event_at2 ∷ [])) ≡ Outcome.Numeric (Number.Whole (pos 2)) ∷ [])
unfolding the_bits the_twos the_faults the_step the_logic offered history_of results_of_rule
times_seen = (refl, refl)

-- though the streams agree on all that it shows: it breaks demand 3's agreement too
pub no_times_disagrees : (reacher : Reacher) → LeavesOutTimes reacher → SameInTheLogic reacher timed → ⊥
unfolding the_bits the_twos the_faults the_step offered history_of
no_times_disagrees reacher wrong same =
    let timeless : T (reacher timed 1).clock → ⊥ = subst T (wrong.clock ∙ no_clock (marked_in (reacher timed 1))) in
    let alike = same 1 (lit< tt) (event_at1 ∷ []) (event_at2 ∷ []) (record { reports = λ i reached. refl; times = λ reached. absurd (timeless reached) }, tt) in
    let z : ◌≡◌ {A = ℕ} 1 2 = cc (sym times_seen.0 ∙ alike ∙ times_seen.1) in
    omega arith
