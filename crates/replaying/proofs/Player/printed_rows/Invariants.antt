-- `replaying::Player::printed_rows` meets its contract. The loop's invariant: the lines of the entries passed are laid.
use lib.ListN.{get_or}
use Rattle.lines.specs.Laying.{Lays}
use Rattle.stream.specs.Replay.{row_lines}
use Rattle.replaying.specs.Moving.{text_kept}
use Rattle.replaying.specs.Rows.{printed}
use Rattle.replaying.proofs.Player.printed_rows.Given as goal

abbrev pub invariant-loop-k : goal.invariant-loop-k
invariant-loop-k l = Lays l.initial.out l.start (row_lines (text_kept l.self.texts l.self.sizes) l.time (λ j. printed (get_or l.results j 0)) l.k) l.out l.at
