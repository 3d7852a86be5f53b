-- `inplace::walk::take_entry` meets its contract.
use mathlib.Core.Path.{refl}
use native.Mathlib.Omega.{arith}
use Rattle.inplace.specs.Turning.{advances_done, advances_plain}
use Rattle.inplace.proofs.walk.take_entry.Goals as goal

-- what is read of the words, as the code reads it
pub returns-then-done : goal.returns-then-done
returns-then-done c =
    advances_done _
    (record { entry = refl; first = refl; second = refl; telling = refl; standing = refl; holds = refl; kept = refl })
    (omega arith)
    c.judge-judged.ensures
    refl
    _
    c.if-done.true
    c.number_taken.ensures
    refl

pub returns-else-done : goal.returns-else-done
returns-else-done c =
    advances_plain _
    (record { entry = refl; first = refl; second = refl; telling = refl; standing = refl; holds = refl; kept = refl })
    (omega arith)
    c.judge-judged.ensures
    refl
    c.if-done.false
    refl
