-- `replaying::Player::refused_steps` meets its contract. The loop's invariant: whatever turn follows from here is one from the start; the measure is how many bytes are left.
use mathlib.Core.Path.{subst}
use native.Mathlib.Omega.{arith}
use Rattle.replaying.specs.declared.framing.Record.{Record}
use Rattle.replaying.specs.Framing.{Framed}
use Rattle.replaying.specs.Refusing.{going_refused}
use Rattle.replaying.proofs.Player.refused_steps.Goals as goal

pub loop-out-preserved : goal.loop-out-preserved
loop-out-preserved c =
    let framed : Framed c.args.input.now c.loop-out.at (Record.Whole c.in-Whole.size) = subst (Framed c.args.input.now c.loop-out.at) c.in-Whole.is c.record_at.ensures in
    going_refused c.loop-out.invariant c.requires.1 (omega (arith, c.loop-out-test.true)) framed c.refused_line-filled.ensures c.once_more-refused.ensures
