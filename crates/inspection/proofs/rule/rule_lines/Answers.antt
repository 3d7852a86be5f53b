-- `inspection::rule::rule_lines` meets its contract: the label is found, and its line and the others are laid.
use Rattle.inspection.specs.Rules.{lays_rule}
use Rattle.inspection.proofs.rule.rule_lines.Goals as goal

pub returns : goal.returns
returns c = search lays_rule
