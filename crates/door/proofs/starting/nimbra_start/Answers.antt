-- `door::starting::nimbra_start` meets its contract: the size of the words, then the script, then a fresh monitor.
use native.Mathlib.Omega.{arith}
use Rattle.door.specs.Starting.{start_size, start_refused, start_done}
use Rattle.door.proofs.starting.nimbra_start.Goals as goal

pub returns-then-wrong_words : goal.returns-then-wrong_words
returns-then-wrong_words c = start_size _ _ (λ e. omega arith)

pub returns-in-Err : goal.returns-in-Err
returns-in-Err c = search start_refused

pub returns-in-Ok : goal.returns-in-Ok
returns-in-Ok c = search start_done
