-- `door::reaching::nimbra_reach` meets its contract: the sizes, then 29, then the reach.
use native.Mathlib.Omega.{arith}
use Rattle.door.specs.Reaching.{found_slotted, reach_words, reach_marks, reach_unsound, reach_shown}
use Rattle.door.proofs.reaching.nimbra_reach.Goals as goal

pub returns-then-state-ne-WORDS : goal.returns-then-state-ne-WORDS
returns-then-state-ne-WORDS c = reach_words _ _ _ (λ e. omega arith)

pub returns-then-wrong_marks : goal.returns-then-wrong_marks
returns-then-wrong_marks c = reach_marks _ _ _ (omega arith) (λ e. omega arith)

pub returns-in-Err : goal.returns-in-Err
returns-in-Err c = search reach_unsound

pub returns-in-Ok : goal.returns-in-Ok
returns-in-Ok c = search reach_shown
