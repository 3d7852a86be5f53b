-- `door::alarms::nimbra_next_alarm` meets its contract. The loop's invariant: the first place from k on is the first from `from` on.
use mathlib.Core.Path.{◌≡◌}
use Rattle.door.specs.Alarms.{next_alarm}
use Rattle.door.proofs.alarms.nimbra_next_alarm.Given as goal

abbrev pub invariant-loop-k : goal.invariant-loop-k
invariant-loop-k l = next_alarm l.results l.k ≡ next_alarm l.results l.from
