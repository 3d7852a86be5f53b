-- `replaying::Player::run_steps` meets its contract. The loop's invariant: the words are those of the monitor that the records so far have left; the measure is how many
-- bytes are left.
use mathlib.Core.Path.{◌≡◌, refl, subst, ap, ◌∙◌}
use native.Mathlib.Omega.{arith}
use Rattle.monitor.specs.declared.Monitor.{Monitor}
use Rattle.words.specs.Layout.{Kept}
use Rattle.words.specs.Unpacking.{monitor_in}
use Rattle.words.specs.Restored.{monitor_again}
use Rattle.replaying.specs.declared.Stage.{Stage}
use Rattle.replaying.specs.declared.Player.{Player}
use Rattle.replaying.specs.Moving.{Turned}
use Rattle.replaying.specs.declared.framing.Record.{Record}
use Rattle.replaying.specs.Framing.{Framed}
use Rattle.replaying.specs.Turning.{awaiting, awaiting_turned}
use Rattle.replaying.specs.Running.{running_none, running_more, running_back, turned_by}
use Rattle.replaying.proofs.Player.run_steps.Goals as goal

-- the monitor's arrays have the lengths that its type gives them, and the monitor comes back from the words that it was packed into
pub loop-out-init : goal.loop-out-init
loop-out-init c =
    let p = c.args.self in
    let shape : Kept p.monitor = record {
      table = record { entries = omega arith; events = omega arith; variables = omega arith };
      reported = omega arith;
      held = omega arith;
      cells = omega arith;
    } in
    let back : monitor_in c.pack.new.state ≡ p.monitor = ap monitor_in c.pack.ensures ∙ monitor_again p.monitor shape c.requires.1 in (
      running_none p.monitor (record { shape = shape; sound = c.requires.1 }) refl c.pack.ensures
          (ap (λ (m : Monitor). awaiting p.texts p.sizes m p.accepted p.refused) back) c.requires.2 c.requires.3,
      refl,
    )

pub loop-out-preserved : goal.loop-out-preserved
loop-out-preserved c =
    let framed : Framed c.args.input.now c.loop-out.at (Record.Whole c.in-Whole.size) = subst (Framed c.args.input.now c.loop-out.at) c.in-Whole.is c.record_at.ensures in
    let inv = c.loop-out.invariant in (
      running_more inv.0 (omega (arith, c.loop-out-test.true)) framed inv.1 c.take-answer.ensures c.answer_lines-filled.ensures
          c.accepted_after-accepted.ensures c.refused_after-refused.ensures,
      omega (arith, inv.1),
    )

-- the turn that was closed is one from the start
pub returns : goal.returns
returns c =
    let p = c.args.self in
    let shape : Kept p.monitor = record {
      table = record { entries = omega arith; events = omega arith; variables = omega arith };
      reported = omega arith;
      held = omega arith;
      cells = omega arith;
    } in
    let back : monitor_in c.pack.new.state ≡ p.monitor = ap monitor_in c.pack.ensures ∙ monitor_again p.monitor shape c.requires.1 in
    let run = c.loop-out.invariant.0 in
    let player : Stage → Player = λ s. record { stage = s; texts = p.texts; sizes = p.sizes; monitor = c.monitor_in.result; accepted = c.loop-out.accepted; refused = c.loop-out.refused } in
    let closed = subst (λ (s : Stage). Turned (player s) c.args.ended c.args.input.now c.loop-out.at c.loop-out.out c.loop-out.filled c.close.new.out c.close.result) c.requires.0 c.close.ensures in
    awaiting_turned c.requires.0 (turned_by back (run.going.onto _ _ (turned_by (running_back run c.monitor_in.ensures) closed)))
