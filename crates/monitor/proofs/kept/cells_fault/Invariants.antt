-- The loop's invariant: no cell passed has a fault.
use Rattle.std.proofs.Common.{◌≡◌, List, ℕ, get_or, Ok}
use Rattle.refusals.specs.declared.Refusal.{Refusal}
use Rattle.refusals.specs.Answers.{Answer}
use Rattle.refusals.specs.Numbering.{unless, first_fault}
use Rattle.memory.specs.Recall.{kept_fits}
use Rattle.monitor.proofs.kept.cells_fault.Given as goal

abbrev pub faultAt : List ℕ → ℕ → Answer
faultAt cells k = unless (kept_fits (get_or cells k 0)) Refusal.Unsound

abbrev pub invariant-loop-cell : goal.invariant-loop-cell
invariant-loop-cell l = first_fault l.cell-index (faultAt l.cells) ≡ Ok tt
