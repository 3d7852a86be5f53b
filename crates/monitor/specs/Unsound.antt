-- Laws of 29: a test that is passed is no fault, and any fault of the table, and then of what is kept, is 29.
use Rattle.std.specs.Prelude.{Bool, true, false, ◌≡◌, refl, ℕ, Ok, Err}
use Rattle.std.specs.Result.{result_or}
use Rattle.std.proofs.Math.Path.{sym, ap}
use Rattle.std.proofs.Common.{◌∙◌, arith}
use Rattle.refusals.specs.declared.Refusal.{Refusal}
use Rattle.refusals.specs.Answers.{Answer}
use Rattle.refusals.specs.Numbering.{unless, and_then}
use Rattle.table.specs.Faults.{table_fault, as_unsound}
use Rattle.monitor.specs.declared.Monitor.{Monitor}
use Rattle.monitor.specs.Keeping.{kept_fault, unsound}

module _ (r : Refusal) {called test : Bool} (ensured : called ≡ test) {fault : Answer} (is : fault ≡ unless test r) where
  -- a test that was passed is no fault
  pub passes : called ≡ true → fault ≡ Ok tt
  passes passed = is ∙ ap (λ (b : Bool). unless b r) (sym ensured ∙ passed)

  -- one that was not passed is that fault
  pub fails : called ≡ false → fault ≡ Err r
  fails failed = is ∙ ap (λ (b : Bool). unless b r) (sym ensured ∙ failed)

-- of two answers, any refusal of the first is 29
first_unsound : (a b : Answer) (r : Refusal) → Err r ≡ result_or a (Err Refusal.Unsound) → Err r ≡ as_unsound (and_then a b)
first_unsound (Ok _) b r e = let z : ◌≡◌ {A = ℕ} 0 1 = cc in absurd (omega arith)
first_unsound (Err q) b r e = e

-- and else any refusal of the second
then_unsound : (a b : Answer) → Ok tt ≡ result_or a (Err Refusal.Unsound) → result_or b (Err Refusal.Unsound) ≡ as_unsound (and_then a b)
then_unsound (Ok _) (Ok _) e = refl
then_unsound (Ok _) (Err r) e = refl
then_unsound (Err q) b e = let z : ◌≡◌ {A = ℕ} 0 1 = cc in absurd (omega arith)

module _ (m : Monitor) (found : Answer) (judged : found ≡ table_fault m.table) where
  -- a table at fault is 29
  pub table_decides : (r : Refusal) → Err r ≡ result_or found (Err Refusal.Unsound) → Err r ≡ unsound m
  unfolding unsound
  table_decides r e = rw (← judged) (first_unsound found (kept_fault m) r e)

  -- over a sound table any fault of what is kept is 29
  pub kept_decides : Ok tt ≡ result_or found (Err Refusal.Unsound) → (kept : Answer) → kept ≡ kept_fault m → result_or kept (Err Refusal.Unsound) ≡ unsound m
  unfolding unsound
  kept_decides e kept said = rw (← judged, said) (then_unsound found (kept_fault m) e)
