-- `reacher::updates::linked` meets its contract. The loop's invariant: the updates before entry k are linked.
use Rattle.reacher.specs.Linking.{Linking}
use Rattle.reacher.proofs.updates.linked.Given as goal

abbrev pub invariant-loop-k : goal.invariant-loop-k
invariant-loop-k l = Linking l.t l.last l.before l.k
