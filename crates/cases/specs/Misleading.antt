-- "Four readings that mislead": each a wrong definition beside the right one, and the case at which it differs.
use Rattle.std.specs.Prelude.{Bool, false, ◌&&◌, ◌||◌, List, [], ◌∷◌, map, reverse, ◌≡◌, refl, ℕ, zero, suc, ◌<◌, T, ltb, eqb}
use Rattle.std.proofs.Common.{arith, lit<, lt→ltb}
use Rattle.std.proofs.Math.Dec.{leb-suc-zero, eqb-suc-zero}
use Rattle.values.specs.declared.Truth.{Truth}
use Rattle.values.specs.declared.Number.{Number}
use Rattle.values.specs.declared.Outcome.{Outcome}
use Rattle.values.specs.Truths.{is_false}
use Rattle.values.specs.Outcomes.{Said, true-condition, undefined-condition, occurs, does-not-occur, violated, not-violated, said}
use Rattle.table.specs.declared.Table.{Table}
use Rattle.table.specs.declared.Entry.TheVariants.{ImportedCondition, Pair, Start, End}
use Rattle.table.specs.Kinds.{operands_of, update_of}
use Rattle.table.specs.Tables.{entry_at}
use Rattle.step.specs.Steps.{Step}
use Rattle.meaning.specs.declared.Givens.{Givens}
use Rattle.meaning.specs.Places.{places_of}
use Rattle.meaning.specs.Meaning.{meaning}
use Rattle.history.specs.History.{row_at, Judge, judge, condition_before, held_before, givens_at, result_by, the_logic}
use Rattle.history.specs.Marked.{Case, answer_by, rules, p3, p8, p9end, true_then_undefined, read_then_update}
use Rattle.reach.specs.Reaching.{Entries, is_operand, is_read, reads_update, leads_to, Closed, Least}
use Rattle.cases.specs.Gate.{second_closing}

-- a judge says something else than document 01 at a case
abbrev pub Differs : Judge → Case → Type 0
Differs by c = answer_by by c ≡ c.says → ⊥

-- 1. "Taking undefined for false."
abbrev flat : Truth → Truth
flat Truth.Undefined = Truth.False
flat Truth.False = Truth.False
flat Truth.True = Truth.True

abbrev flat_result : Outcome → Outcome
flat_result Outcome.Nothing = Outcome.Nothing
flat_result (Outcome.Condition c) = Outcome.Condition (flat c)
flat_result (Outcome.Event b) = Outcome.Event b
flat_result (Outcome.Numeric x) = Outcome.Numeric x
flat_result (Outcome.Done b) = Outcome.Done b
flat_result (Outcome.Raised b) = Outcome.Raised b
flat_result (Outcome.Property c) = Outcome.Property (flat c)

-- what is given, where the condition counts as false before the first step
abbrev flat_givens : Truth → Givens → Givens
flat_givens before g =
    record {
      told = g.told;
      clock = g.clock;
      reported = g.reported;
      held = g.held;
      paired = g.paired;
      stood = g.stood;
      failed = is_false (flat before);
      latest = g.latest;
    }

-- the judge of this reading
unfoldable pub undefined_for_false : Judge
undefined_for_false t past s row k =
    let places = places_of (entry_at t k) in
    flat_result
    (meaning (entry_at t k) (row_at row places.first) (row_at row places.second) (flat_givens (condition_before past places.first) (givens_at t past s row k)))

-- "It makes P3 true, gives P9 an end and takes away the end in P8."
pub undefined_for_false_lem : map (answer_by undefined_for_false) (p3 ∷ p9end ∷ p8 ∷ []) ≡ true-condition ∷ occurs ∷ does-not-occur ∷ []
unfolding answer_by said undefined_for_false the_logic
undefined_for_false_lem = refl

-- 2. "Trusting document 003's remark that a condition equals the pair of its own start and end."
abbrev own_pair : Table
own_pair = rules (false ∷ []) [] (ImportedCondition 0 ∷ Start 0 ∷ End 0 ∷ Pair 1 2 ∷ [])

-- what the condition itself says, at the last of these steps
pub condition_says : List Step → Said
condition_says steps = said (result_by judge own_pair (reverse steps) 0)

-- and what the pair of its own start and end says
pub pair_says : List Step → Said
pair_says steps = said (result_by judge own_pair (reverse steps) 3)

-- "With three values it fails at P9."
at_p9 : (condition_says true_then_undefined ≡ undefined-condition) × (pair_says true_then_undefined ≡ true-condition)
unfolding condition_says pair_says said the_logic
at_p9 = (refl, refl)

-- so the two are not the same
pub reading_2_differs : ((steps : List Step) → condition_says steps ≡ pair_says steps) → ⊥
reading_2_differs same = let z : ◌≡◌ {A = ℕ} 0 1 = cc (at_p9.0, at_p9.1, same true_then_undefined) in omega arith

-- 3. "Evaluating all conditions before all updates": a read sees the updates of earlier steps alone
abbrev late_givens : Number → Givens → Givens
late_givens held g =
    record {
      told = g.told;
      clock = g.clock;
      reported = g.reported;
      held = held;
      paired = g.paired;
      stood = g.stood;
      failed = g.failed;
      latest = g.latest;
    }

-- the judge of this reading
unfoldable pub updates_last : Judge
updates_last t past s row k =
    let places = places_of (entry_at t k) in
    meaning (entry_at t k) (row_at row places.first) (row_at row places.second) (late_givens (held_before t past places.variable) (givens_at t past s row k))

-- "Document 003's gate rule, whose update would then come too late, is right only if the update stands first and the rule sees it."
pub gate_rule : (answer_by judge second_closing ≡ not-violated) × (answer_by updates_last second_closing ≡ violated)
unfolding answer_by said updates_last the_logic
gate_rule = (refl, refl)

-- 4. "Following only the updates that stand before a read when working out reach."
pub earlier_only : Table → ℕ → ℕ → Bool
earlier_only t j o = is_operand (operands_of (entry_at t j)) o || (ltb o j && reads_update (operands_of (entry_at t j)) (update_of (entry_at t o)))

-- the read by itself
abbrev pub read_alone : Entries
read_alone j = eqb j 0

-- no entry stands before the first
pub none_before : (o : ℕ) (b : Bool) → T (ltb o 0 && b) → ⊥
none_before o b before = rw (leb-suc-zero o) at before

pub read_alone_closed : Closed (earlier_only read_then_update) 4 read_alone
unfolding earlier_only is_operand entry_at operands_of update_of
read_alone_closed zero o hj ho inside leads = absurd (none_before o _ leads)
read_alone_closed (suc j) o hj ho inside leads = absurd (rw (eqb-suc-zero j) at inside)

-- all four entries of P12's table
abbrev pub all_four : Entries
all_four j = ltb j 4

-- by document 01's rule the reach of the read is all four: the update, its event and its number
pub right_least : Least (leads_to read_then_update) 4 0 all_four
unfolding leads_to is_operand is_read entry_at operands_of update_of
right_least = record { holds = tt; closed = λ j o hj ho inside leads. lt→ltb o 4 ho; least = every }
  where
    every : (other : Entries) → T (other 0) → Closed (leads_to read_then_update) 4 other → (j : ℕ) → j < 4 → T (all_four j) → T (other j)
    every other holds closed zero h inside = holds
    every other holds closed (suc zero) h inside = closed 3 1 (lit< tt) (lit< tt) (closed 0 3 (lit< tt) (lit< tt) holds tt) tt
    every other holds closed (suc (suc zero)) h inside = closed 3 2 (lit< tt) (lit< tt) (closed 0 3 (lit< tt) (lit< tt) holds tt) tt
    every other holds closed (suc (suc (suc zero))) h inside = closed 0 3 (lit< tt) (lit< tt) holds tt
    every other holds closed (suc (suc (suc (suc j)))) h inside = absurd (not_below h)
      where
        not_below : suc (suc (suc (suc j))) < 4 → ⊥
        not_below below = omega arith
