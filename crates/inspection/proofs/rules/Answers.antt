-- `inspection::rules` meets its contract. The loop's invariant: the lines of the entries passed are laid.
use Rattle.inspection.specs.Rules.{lays_no_rules, lays_next_rule}
use Rattle.inspection.proofs.rules.Goals as goal

pub loop-k-init : goal.loop-k-init
loop-k-init c = search lays_no_rules

pub loop-k-preserved : goal.loop-k-preserved
loop-k-preserved c = search lays_next_rule
