-- `door::stepping::nimbra_step_held` meets its contract: the sizes, then the step.
use native.Mathlib.Omega.{arith}
use Rattle.door.specs.Stepping.{held_words, held_slots, held_done}
use Rattle.door.proofs.stepping.nimbra_step_held.Goals as goal

pub returns-then-state-ne-WORDS : goal.returns-then-state-ne-WORDS
returns-then-state-ne-WORDS c = held_words _ _ _ (λ e. omega arith)

pub returns-then-results-ne128 : goal.returns-then-results-ne128
returns-then-results-ne128 c = held_slots _ _ _ (omega arith) (λ e. omega arith)

pub returns : goal.returns
returns c = search held_done
