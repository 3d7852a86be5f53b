-- `replaying::Player::follow` meets its contract: by the stage.
use Rattle.replaying.specs.Turning.{stays_over}
use Rattle.replaying.proofs.Player.follow.Goals as goal

pub returns-in-Over : goal.returns-in-Over
returns-in-Over c = search stays_over
