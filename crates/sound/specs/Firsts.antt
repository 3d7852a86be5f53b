-- Laws of the first fault: none among the first k, and one at k.
use Rattle.std.proofs.Math.Logic.{⊎_elim}
use Rattle.std.specs.Prelude.{Bool, true, false, ◌&&◌, List, ◌≡◌, refl, length, take, Ok, Err}
use Prim.Native.Nat.{ℕ, zero, suc, ◌+◌, ◌<◌, ◌≤◌}
use Rattle.std.proofs.Common.{le_antisymm, not-suc-le-zero, eq-or-lt_of_le, le_of_suc-le-suc, add-one, sym, ◌∙◌, ap, ap₂, arith}
use Rattle.std.specs.List.{list_all}
use Rattle.std.proofs.lemmas.List.Folds.{list_all_more}
use Rattle.values.specs.declared.Number.{Number}
use Rattle.values.specs.Numbers.{fits_n}
use Rattle.refusals.specs.declared.Refusal.{Refusal}
use Rattle.refusals.specs.Answers.{Answer}
use Rattle.refusals.specs.Numbering.{unless, and_then, first_fault}
use Rattle.table.specs.declared.Table.{Table}
use Rattle.table.specs.Tables.{number_at, initial_of}
use Rattle.table.specs.Limits.{limits}
use Rattle.table.specs.Sound.{limits_within}
use Rattle.table.specs.Faults.{number_fault, limits_fault, table_fault}
use Rattle.sound.specs.Laws.{entry_fault}

module _ (f : ℕ → Answer) where
  -- one more without fault
  pub fault_none : (k : ℕ) → first_fault k f ≡ Ok tt → f k ≡ Ok tt → first_fault (k + 1) f ≡ Ok tt
  unfolding first_fault
  fault_none k before here = rw (add-one k, before) here

  -- none among all
  pub faults_none : (n k : ℕ) → first_fault k f ≡ Ok tt → k ≤ n → n ≤ k → first_fault n f ≡ Ok tt
  faults_none n k before l m = rw (le_antisymm m l) before

  -- the first one
  pub fault_found : (n k : ℕ) (r : Refusal) → k < n → first_fault k f ≡ Ok tt → f k ≡ Err r → first_fault n f ≡ Err r
  unfolding first_fault
  fault_found zero k r below before here = absurd (not-suc-le-zero below)
  fault_found (suc n) k r below before here =
      ⊎_elim
      (λ e. rw (← e, before) here)
      (λ l. rw (fault_found n k r l before here))
      (eq-or-lt_of_le (le_of_suc-le-suc below))

-- "13: number outside 48 bits"
pub number_said_lem : (x : Number) → number_fault x ≡ unless (fits_n x) Refusal.Range
unfolding number_fault
number_said_lem Number.Undefined = refl
number_said_lem (Number.Whole z) = refl

-- a test that one of two fails
both : (a b : Bool) (r : Refusal) → and_then (unless a r) (unless b r) ≡ unless (a && b) r
both true b r = refl
both false b r = refl

-- the numbers of the first v variables, tested one by one
numbers_said : (slots : List Number) (v : ℕ) → v ≤ length slots
    → first_fault v (λ x. number_fault (number_at slots x)) ≡ unless (list_all fits_n (take v slots)) Refusal.Range
unfolding first_fault
numbers_said slots zero room = refl
numbers_said slots (suc v) room =
    ap₂ and_then (numbers_said slots v (omega arith)) (number_said_lem (number_at slots v))
    ∙ both (list_all fits_n (take v slots)) (fits_n (number_at slots v)) Refusal.Range
    ∙ ap (λ (b : Bool). unless b Refusal.Range)
    (sym (list_all_more fits_n slots v Number.Undefined (omega arith))
    ∙ ap (λ (n : ℕ). list_all fits_n (take n slots)) (add-one v))

-- where 4 is not given, the counts are within the slots
pub variables_kept : (t : Table) → limits_fault t ≡ Ok tt → t.v ≤ limits.variables
variables_kept t e = (limits_within t e).0.variables

pub entries_kept : (t : Table) → limits_fault t ≡ Ok tt → t.n ≤ limits.entries
entries_kept t e = (limits_within t e).0.entries

-- the faults of a table in order, with its variables tested one by one
pub table_in_turn : (t : Table) → length t.variables ≡ limits.variables
    → table_fault t ≡ and_then (limits_fault t) (and_then (unless (list_all fits_n (take t.v t.variables)) Refusal.Range) (first_fault t.n (entry_fault t)))
unfolding table_fault initial_of
table_in_turn t slots = by (limits_fault t) refl
  where
    by : (a : Answer) → limits_fault t ≡ a
        → and_then (limits_fault t) (and_then (first_fault t.v (λ x. number_fault (number_at t.variables x))) (first_fault t.n (entry_fault t)))
        ≡ and_then (limits_fault t) (and_then (unless (list_all fits_n (take t.v t.variables)) Refusal.Range) (first_fault t.n (entry_fault t)))
    by (Err r) e = rw e refl
    by (Ok _) e =
        let within : t.v ≤ limits.variables = variables_kept t e in
        rw (numbers_said t.variables t.v (omega arith)) refl
