-- `door::stepping::nimbra_step` meets its contract: the sizes, then 29, then the step.
use native.Mathlib.Omega.{arith}
use Rattle.door.specs.Stepping.{step_words, step_slots, step_unsound, step_done}
use Rattle.door.proofs.stepping.nimbra_step.Goals as goal

pub returns-then-state-ne-WORDS : goal.returns-then-state-ne-WORDS
returns-then-state-ne-WORDS c = step_words _ _ _ (λ e. omega arith)

pub returns-then-results-ne128 : goal.returns-then-results-ne128
returns-then-results-ne128 c = step_slots _ _ _ (omega arith) (λ e. omega arith)

pub returns-in-Err : goal.returns-in-Err
returns-in-Err c = search step_unsound

pub returns-in-Ok : goal.returns-in-Ok
returns-in-Ok c = search step_done
