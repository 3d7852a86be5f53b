-- `inplace::walk::walk` meets its contract. The loop's invariant: the first k entries are taken.
use Rattle.inplace.specs.Turning.{Walking}
use Rattle.inplace.proofs.walk.walk.Given as goal

abbrev pub invariant-loop-k : goal.invariant-loop-k
invariant-loop-k l = Walking l.told l.time l.n l.initial.state l.initial.results l.k l.state l.results
