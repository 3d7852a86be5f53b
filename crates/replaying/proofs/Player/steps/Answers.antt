-- `replaying::Player::steps` meets its contract: by whether 29 stops the monitor.
use Rattle.replaying.specs.Refusing.{stopped_by_29}
use Rattle.replaying.proofs.Player.steps.Goals as goal

-- where it was not, the monitor is stopped by 29
pub refused_steps-requires : goal.refused_steps-requires
refused_steps-requires c = (c.requires.0, stopped_by_29 _ c.unsound.ensures c.in-Err.is, c.requires.1, c.requires.2)
