-- `monitor::kept::held_fault` meets its contract: no number passed has a fault.
use Rattle.std.proofs.Common.{sym, rules, arith}
use Rattle.refusals.specs.declared.Refusal.{Refusal}
use Rattle.refusals.specs.Numbering.{first_fault}
use Rattle.sound.specs.Firsts.{fault_none, fault_found, faults_none, number_said_lem}
use Rattle.monitor.specs.Unsound.{passes, fails}
use Rattle.monitor.proofs.kept.held_fault.Invariants.{faultAt}
use Rattle.monitor.proofs.kept.held_fault.Goals as goal

pub loop-slot-init : goal.loop-slot-init
unfolding first_fault
loop-slot-init c = search rules

pub returns-then-not-in_range : goal.returns-then-not-in_range
returns-then-not-in_range c =
    sym
    (fault_found (faultAt c.args.held.now) 32 c.loop-slot.slot-index _ (omega arith)
    c.loop-slot.invariant (fails Refusal.Range c.in_range.ensures (number_said_lem _) c.if-not-in_range.true))

pub loop-slot-preserved : goal.loop-slot-preserved
loop-slot-preserved c =
    fault_none (faultAt c.args.held.now) c.loop-slot.slot-index
    c.loop-slot.invariant (passes Refusal.Range c.in_range.ensures (number_said_lem _) c.if-not-in_range.false)

pub returns : goal.returns
returns c = sym (faults_none (faultAt c.args.held.now) 32 c.loop-slot.slot-index c.loop-slot.invariant (omega arith) (omega arith))
