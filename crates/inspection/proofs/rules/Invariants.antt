-- `inspection::rules` meets its contract. The loop's invariant: the lines of the entries passed are laid.
use Rattle.lines.specs.Laying.{Lays}
use Rattle.inspection.specs.Inspected.{rules_to}
use Rattle.inspection.proofs.rules.Given as goal

abbrev pub invariant-loop-k : goal.invariant-loop-k
invariant-loop-k l = Lays l.initial.out l.from (rules_to l.s l.t l.k) l.out l.at
