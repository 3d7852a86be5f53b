-- `replaying::Player::run_steps` meets its contract. The loop's invariant: the words are those of the monitor that the records so far have left; the measure is how many
-- bytes are left.
use mathlib.Core.Path.{◌≡◌}
use Prim.Native.Nat.{◌-◌}
use lib.ListN.{length}
use Rattle.words.specs.Unpacking.{monitor_in}
use Rattle.replaying.specs.Turning.{awaiting}
use Rattle.replaying.specs.Running.{Running}
use Rattle.replaying.proofs.Player.run_steps.Given as goal

abbrev pub invariant-loop-out : goal.invariant-loop-out
invariant-loop-out l = Running (awaiting l.self.texts l.self.sizes (monitor_in l.initial.state) l.initial.accepted l.initial.refused) l.ended l.input l.from l.initial.out l.start l.self.texts l.self.sizes l.n l.state l.accepted l.refused l.at l.out l.filled × (length l.results ≡ 128)

abbrev pub decreases-loop-out : goal.decreases-loop-out
decreases-loop-out l = length l.input - l.at
