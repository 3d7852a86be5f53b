-- `replaying::Player::printed_line` meets its contract: by the word.
use Rattle.replaying.specs.Rows.{lays_alarm, lays_violated, lays_unprinted}
use Rattle.replaying.proofs.Player.printed_line.Goals as goal

pub returns-then-raised : goal.returns-then-raised
returns-then-raised c = lays_alarm _ _ c.if-raised.true c.label.ensures c.word_line.ensures

pub returns-then-violated : goal.returns-then-violated
returns-then-violated c = lays_violated _ _ c.if-violated.true c.label-then-violated.ensures c.word_line-then-violated.ensures

pub returns : goal.returns
returns c = lays_unprinted _ _ _ c.if-raised.false c.if-violated.false
