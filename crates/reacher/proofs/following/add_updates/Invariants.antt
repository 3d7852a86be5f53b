-- `reacher::following::add_updates` meets its contract. The loop's invariant: what is left to add is what the link leads through; the measure is the link.
use Rattle.reacher.specs.Adding.{found}
use Rattle.reacher.specs.Along.{Passing}
use Rattle.reacher.proofs.following.add_updates.Given as goal

abbrev pub invariant-loop-link : goal.invariant-loop-link
invariant-loop-link l = Passing l.before l.from (found l.initial.marks l.initial.order l.count) l.link (found l.marks l.order l.total)

abbrev pub decreases-loop-link : goal.decreases-loop-link
decreases-loop-link l = l.link
