-- `reacher::updates::linked` meets its contract. The loop's invariant: the updates before entry k are linked.
use Rattle.table.specs.Tables.{entry_at}
use Rattle.reacher.specs.Linking.{linking_none, linking_more}
use Rattle.reacher.proofs.updates.linked.Goals as goal

pub loop-k-init : goal.loop-k-init
loop-k-init c = search linking_none

pub loop-k-preserved : goal.loop-k-preserved
unfolding entry_at
loop-k-preserved c = search linking_more
