-- `replaying::Player::refused_steps` meets its contract. The loop's invariant: whatever turn follows from here is one from the start; the measure is how many bytes are left.
use lib.ListN.{length}
use Prim.Native.Nat.{◌-◌}
use Rattle.replaying.specs.Turning.{Going, awaiting}
use Rattle.replaying.proofs.Player.refused_steps.Given as goal

abbrev pub invariant-loop-out : goal.invariant-loop-out
invariant-loop-out l = Going (awaiting l.self.texts l.self.sizes l.self.monitor l.self.accepted l.initial.refused) l.ended l.input l.from l.initial.out l.start (awaiting l.self.texts l.self.sizes l.self.monitor l.self.accepted l.refused) l.at l.out l.filled

abbrev pub decreases-loop-out : goal.decreases-loop-out
decreases-loop-out l = length l.input - l.at
