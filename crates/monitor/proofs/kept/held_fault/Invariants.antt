-- The loop's invariant: no number passed has a fault.
use Rattle.std.proofs.Common.{◌≡◌, List, ℕ, Ok}
use Rattle.refusals.specs.Answers.{Answer}
use Rattle.refusals.specs.Numbering.{first_fault}
use Rattle.values.specs.declared.Number.{Number}
use Rattle.table.specs.Tables.{number_at}
use Rattle.table.specs.Faults.{number_fault}
use Rattle.monitor.proofs.kept.held_fault.Given as goal

abbrev pub faultAt : List Number → ℕ → Answer
faultAt held x = number_fault (number_at held x)

abbrev pub invariant-loop-slot : goal.invariant-loop-slot
invariant-loop-slot l = first_fault l.slot-index (faultAt l.held) ≡ Ok tt
