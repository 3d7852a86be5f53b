-- `replaying::Player::close` meets its contract: by whether the input has ended, and whether there is room.
use Rattle.replaying.specs.Turning.{close_full, close_waits, close_ends}
use Rattle.replaying.proofs.Player.close.Goals as goal

pub returns-then-not-ended : goal.returns-then-not-ended
returns-then-not-ended c = search close_waits

pub returns-then-out-filled-lt-MOVE_ROOM : goal.returns-then-out-filled-lt-MOVE_ROOM
returns-then-out-filled-lt-MOVE_ROOM c = search close_full

pub returns : goal.returns
returns c = search close_ends
