-- `replaying::Player::unopened` meets its contract: by whether the input has ended.
use Rattle.replaying.specs.Turning.{opening_waits, opening_cut}
use Rattle.replaying.proofs.Player.unopened.Goals as goal

pub returns-then-not-ended : goal.returns-then-not-ended
returns-then-not-ended c = search opening_waits

pub returns : goal.returns
returns c = search opening_cut
