-- The loop's invariant: the walk has come to entry k.
use Rattle.monitor.specs.Walking.{Come}
use Rattle.monitor.proofs.walk.advance.Given as goal

abbrev pub invariant-loop-k : goal.invariant-loop-k
invariant-loop-k l = Come l.m l.s l.results l.held l.cells l.k
