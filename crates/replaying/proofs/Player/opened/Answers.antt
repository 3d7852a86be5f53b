-- `replaying::Player::opened` meets its contract: by the reader's answer.
use Rattle.replaying.specs.Opening.{read_accepted, read_refused}
use Rattle.replaying.proofs.Player.opened.Goals as goal

pub returns-in-Ok-clause-player : goal.returns-in-Ok-clause-player
returns-in-Ok-clause-player c = rw (read_accepted _ c.read-read.ensures c.in-Ok.is).is c.begun.ensures

pub returns-in-Ok-clause-line : goal.returns-in-Ok-clause-line
returns-in-Ok-clause-line c = rw (read_accepted _ c.read-read.ensures c.in-Ok.is).is c.put_script.ensures

pub returns-in-Err-clause-player : goal.returns-in-Err-clause-player
returns-in-Err-clause-player c = rw (read_refused _ c.read-read.ensures c.in-Err.is) c.finished.ensures

pub returns-in-Err-clause-line : goal.returns-in-Err-clause-line
returns-in-Err-clause-line c = rw (read_refused _ c.read-read.ensures c.in-Err.is) c.put_script_refused.ensures
