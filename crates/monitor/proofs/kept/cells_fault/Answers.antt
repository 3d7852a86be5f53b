-- `monitor::kept::cells_fault` meets its contract: no cell passed has a fault.
use Rattle.std.proofs.Common.{refl, sym, rules, arith}
use Rattle.refusals.specs.declared.Refusal.{Refusal}
use Rattle.refusals.specs.Numbering.{first_fault}
use Rattle.sound.specs.Firsts.{fault_none, fault_found, faults_none}
use Rattle.monitor.specs.Unsound.{passes, fails}
use Rattle.monitor.proofs.kept.cells_fault.Invariants.{faultAt}
use Rattle.monitor.proofs.kept.cells_fault.Goals as goal

pub loop-cell-init : goal.loop-cell-init
unfolding first_fault
loop-cell-init c = search rules

pub returns-then-not-kept_fits : goal.returns-then-not-kept_fits
returns-then-not-kept_fits c =
    sym
    (fault_found (faultAt c.args.cells.now) 128 c.loop-cell.cell-index _ (omega arith)
    c.loop-cell.invariant (fails Refusal.Unsound c.kept_fits.ensures refl c.if-not-kept_fits.true))

pub loop-cell-preserved : goal.loop-cell-preserved
loop-cell-preserved c =
    fault_none (faultAt c.args.cells.now) c.loop-cell.cell-index
    c.loop-cell.invariant (passes Refusal.Unsound c.kept_fits.ensures refl c.if-not-kept_fits.false)

pub returns : goal.returns
returns c = sym (faults_none (faultAt c.args.cells.now) 128 c.loop-cell.cell-index c.loop-cell.invariant (omega arith) (omega arith))
