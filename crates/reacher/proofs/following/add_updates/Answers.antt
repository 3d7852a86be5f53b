-- `reacher::following::add_updates` meets its contract. The loop's invariant: what is left to add is what the link leads through; the measure is the link.
use Rattle.reacher.specs.Along.{passing_more, passing_all}
use Rattle.reacher.proofs.following.add_updates.Goals as goal

pub loop-link-preserved : goal.loop-link-preserved
loop-link-preserved c = search passing_more

pub returns : goal.returns
returns c = search passing_all
