-- `replaying::Player::printed_rows` meets its contract. The loop's invariant: the lines of the entries passed are laid.
use mathlib.Core.Path.{refl}
use Rattle.replaying.specs.Printing.{lays_no_row, lays_next_result}
use Rattle.replaying.proofs.Player.printed_rows.Goals as goal

pub loop-k-init : goal.loop-k-init
loop-k-init c = lays_no_row _ _ _ _ _

pub loop-k-preserved : goal.loop-k-preserved
loop-k-preserved c = lays_next_result _ _ _ _ c.loop-k.invariant refl c.printed_line-at.ensures
