-- `inspection::rule::reach_lines` meets its contract: the three lines, one after another.
use Rattle.lines.specs.Laying.{lays_then}
use Rattle.inspection.proofs.rule.reach_lines.Goals as goal

pub returns : goal.returns
returns c = search lays_then
