-- `reacher::touched::touched_by` meets its contract. The loop's invariant: what the entries before k touch is noted.
use Rattle.reacher.specs.Touching.{Touching}
use Rattle.reacher.proofs.touched.touched_by.Given as goal

abbrev pub invariant-loop-k : goal.invariant-loop-k
invariant-loop-k l = Touching l.t l.marks l.imports l.clock l.k
