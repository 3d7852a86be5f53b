-- Where the readings that mislead differ from document 01, each by its example beside the reading.
use Rattle.std.specs.Prelude.{◌≡◌, ℕ, zero, suc, ◌<◌, T}
use Rattle.std.proofs.Common.{arith, lit<}
use Rattle.std.proofs.Math.Dec.{eqb-suc-zero}
use Rattle.history.specs.Marked.{p3, p8, p9end, read_then_update}
use Rattle.reach.specs.Reaching.{Entries, leads_to, Closed, Least}
use Rattle.cases.specs.Gate.{second_closing}
use Rattle.cases.specs.Misleading.{Differs, undefined_for_false, undefined_for_false_lem, updates_last, gate_rule, earlier_only, read_alone, read_alone_closed, right_least}

-- so it differs at P3, P8 and P9
pub reading_1_differs : Differs undefined_for_false p3 × (Differs undefined_for_false p8 × Differs undefined_for_false p9end)
reading_1_differs = (
  (λ e. let z : ◌≡◌ {A = ℕ} 0 1 = cc undefined_for_false_lem in omega arith),
  (
    (λ e. let z : ◌≡◌ {A = ℕ} 0 1 = cc undefined_for_false_lem in omega arith),
    λ e. let z : ◌≡◌ {A = ℕ} 0 1 = cc undefined_for_false_lem in omega arith,
  ),
)

-- so it differs at the second closing of the gate
pub reading_3_differs : Differs updates_last second_closing
reading_3_differs e = let z : ◌≡◌ {A = ℕ} 0 1 = cc gate_rule.1 in omega arith

-- under this reading the reach of the read is the read alone, and leaves the update out
pub wrong_least : Least (earlier_only read_then_update) 4 0 read_alone
wrong_least = record { holds = tt; closed = read_alone_closed; least = only }
  where
    only : (other : Entries) → T (other 0) → Closed (earlier_only read_then_update) 4 other → (j : ℕ) → j < 4 → T (read_alone j) → T (other j)
    only other holds closed zero h inside = holds
    only other holds closed (suc j) h inside = absurd (rw (eqb-suc-zero j) at inside)

-- "A later update is seen one step on": P12's update, entry 3, is in every reach of P12's read by the one rule, in none by the other
pub reading_4_differs : (S R : Entries) → Least (leads_to read_then_update) 4 0 S → Least (earlier_only read_then_update) 4 0 R → T (S 3) × (T (R 3) → ⊥)
reading_4_differs S R right wrong = (right_least.least S right.holds right.closed 3 (lit< tt) tt, λ marked. wrong.least read_alone tt read_alone_closed 3 (lit< tt) marked)
