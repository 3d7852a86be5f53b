-- `reacher::touched::touched_by` meets its contract. The loop's invariant: what the entries before k touch is noted.
use Rattle.std.proofs.Common.{◌∙◌}
use Rattle.table.specs.Tables.{entry_at}
use Rattle.reacher.specs.Touching.{touching_none, touching_other, touching_marked, touching_all}
use Rattle.reacher.proofs.touched.touched_by.Goals.{then-marks-k, else-marks-k}
use Rattle.reacher.proofs.touched.touched_by.Goals as goal

pub loop-k-init : goal.loop-k-init
loop-k-init c = search touching_none

pub loop-k-preserved : goal.loop-k-preserved
unfolding entry_at
loop-k-preserved c =
    let touching = c.loop-k.invariant in
    let below = c.loop-k-test.true in
    elim c.if-marks-k.branch [
      | then-marks-k w ↦ touching_marked touching below w.if-marks-k.true w.apart_of-parts.ensures w.import_named.ensures (w.imports-is ∙ w.mark.ensures) w.is_clock-clock.ensures w.clock-is
      | else-marks-k w ↦ rw (w.imports-is, w.clock-is) (touching_other touching below w.if-marks-k.false)
    ]

pub returns : goal.returns
returns c = search touching_all
