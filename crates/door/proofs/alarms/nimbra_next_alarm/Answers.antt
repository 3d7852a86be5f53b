-- `door::alarms::nimbra_next_alarm` meets its contract. The loop's invariant: the first place from k on is the first from `from` on.
use Rattle.door.specs.Alarms.{next_here, next_on, next_none}
use Rattle.door.proofs.alarms.nimbra_next_alarm.Goals as goal

pub returns-then-calls : goal.returns-then-calls
returns-then-calls c = search next_here

pub loop-k-preserved : goal.loop-k-preserved
loop-k-preserved c = search next_on

pub returns : goal.returns
returns c = search next_none
