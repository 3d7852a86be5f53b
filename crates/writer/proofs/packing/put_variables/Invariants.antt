-- `writer::packing::put_variables` meets its contract. The loop's invariant: the numbers passed are put.
use Rattle.writer.specs.Parts.{variables_parts}
use Rattle.writer.specs.Puts.{Puts}
use Rattle.writer.proofs.packing.put_variables.Given as goal

abbrev pub invariant-loop-x : goal.invariant-loop-x
invariant-loop-x l = Puts l.initial.dst l.from (variables_parts l.fn.t l.x) l.dst l.at
