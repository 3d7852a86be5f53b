-- `inspection::rule::name_line` meets its contract: by the kind of the entry.
use Rattle.inspection.specs.Rules.{lays_alarm, lays_property}
use Rattle.inspection.proofs.rule.name_line.Goals as goal

pub returns-then-kind-eq23 : goal.returns-then-kind-eq23
returns-then-kind-eq23 c = search lays_alarm

pub returns : goal.returns
returns c = search lays_property
