-- `writer::packing::put_entries` meets its contract. The loop's invariant: the entries passed are put.
use Rattle.writer.specs.Parts.{entries_parts}
use Rattle.writer.specs.Puts.{Puts}
use Rattle.writer.proofs.packing.put_entries.Given as goal

abbrev pub invariant-loop-k : goal.invariant-loop-k
invariant-loop-k l = Puts l.initial.dst l.from (entries_parts l.fn.t l.k) l.dst l.at
