-- `writer::packing::put_imports` meets its contract. The loop's invariant: the bits of the imports passed are put.
use Rattle.writer.specs.Parts.{imports_parts}
use Rattle.writer.specs.Puts.{Puts}
use Rattle.writer.proofs.packing.put_imports.Given as goal

abbrev pub invariant-loop-i : goal.invariant-loop-i
invariant-loop-i l = Puts l.initial.dst l.from (imports_parts l.fn.t l.i) l.dst l.at
