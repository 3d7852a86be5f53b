-- `door::writing::nimbra_write` meets its contract: the sizes, then 29, then what the writer answers.
use native.Mathlib.Omega.{arith}
use Rattle.door.specs.Writing.{write_words, write_size, write_unsound, write_done}
use Rattle.door.proofs.writing.nimbra_write.Goals as goal

pub returns-then-state-ne-WORDS : goal.returns-then-state-ne-WORDS
returns-then-state-ne-WORDS c = write_words _ _ _ _ (λ e. omega arith)

pub returns-then-wrong_size : goal.returns-then-wrong_size
returns-then-wrong_size c = write_size _ _ _ _ (omega arith) (λ e. omega arith)

pub returns-in-Err : goal.returns-in-Err
returns-in-Err c = search write_unsound

pub returns-in-Ok : goal.returns-in-Ok
returns-in-Ok c = search write_done
