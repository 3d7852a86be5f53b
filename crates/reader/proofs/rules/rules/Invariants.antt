-- The loop's invariant: the first k entries are read, and stand in the table.
use Rattle.reader.specs.Rules.{Ruled}
use Rattle.reader.proofs.rules.rules.Given as goal

abbrev pub invariant-loop-k : goal.invariant-loop-k
invariant-loop-k l = Ruled l.s l.from l.t l.table l.sorts l.at l.k
