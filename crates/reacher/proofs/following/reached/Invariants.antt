-- `reacher::following::reached` meets its contract. The loop's invariant: the first entries found are followed; the measure is how many slots are left.
use Prim.Native.Nat.{◌-◌}
use Rattle.reacher.specs.Adding.{found}
use Rattle.reacher.specs.Following.{Following}
use Rattle.reacher.proofs.following.reached.Given as goal

abbrev pub invariant-loop-head : goal.invariant-loop-head
invariant-loop-head l = Following l.t l.k l.u.before l.last (found l.marks l.order l.count) l.head

abbrev pub decreases-loop-head : goal.decreases-loop-head
decreases-loop-head l = 128 - l.head
