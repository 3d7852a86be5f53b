-- `monitor::start` meets its contract: a sound table gets a fresh monitor, and a table at fault 29 and the empty table's.
use Rattle.monitor.specs.Replying.{start_sound, start_unsound}
use Rattle.monitor.proofs.start.Goals as goal

pub returns-in-Ok : goal.returns-in-Ok
returns-in-Ok c = search start_sound

pub returns-in-Err : goal.returns-in-Err
returns-in-Err c = search start_unsound
