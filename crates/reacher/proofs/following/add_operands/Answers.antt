-- `reacher::following::add_operands` meets its contract: three operands, one after another.
use Rattle.reacher.specs.Adding.{adds_room, adds_three}
use Rattle.reacher.proofs.following.add_operands.Goals as goal

pub add-two-requires : goal.add-two-requires
add-two-requires c = adds_room c.add-one.ensures c.requires

pub add-requires : goal.add-requires
add-requires c = adds_room c.add-two.ensures (adds_room c.add-one.ensures c.requires)

pub returns : goal.returns
returns c = search adds_three
