-- `monitor::kept::unsound` meets its contract: the table's fault comes first, and any fault is 29.
use Rattle.std.proofs.Common.{rules, ◌∙◌}
use Rattle.monitor.specs.Unsound.{table_decides, kept_decides}
use Rattle.monitor.proofs.kept.unsound.Goals as goal

pub returns-in_err-or : goal.returns-in_err-or
returns-in_err-or c = rw (← table_decides c.args.m c.fault.result c.fault.ensures _ c.in_err-or.ensures) (search rules)

pub returns : goal.returns
returns c = c.or-2.ensures ∙ kept_decides c.args.m c.fault.result c.fault.ensures c.in_ok-or.ensures c.kept_fault.result c.kept_fault.ensures
