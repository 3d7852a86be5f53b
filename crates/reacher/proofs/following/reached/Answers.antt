-- `reacher::following::reached` meets its contract. The loop's invariant: the first entries found are followed; the measure is how many slots are left.
use borrow.Author.Rules.{rules}
use native.Mathlib.Omega.{arith}
use Rattle.table.specs.Tables.{entry_at}
use Rattle.reacher.specs.Adding.{room_count, adds_room}
use Rattle.reacher.specs.Following.{none_room, following_none, link_slot, following_more, following_all}
use Rattle.reacher.proofs.following.reached.Goals as goal

pub add-count-requires : goal.add-count-requires
add-count-requires c = none_room

pub loop-head-init : goal.loop-head-init
loop-head-init c = search following_none

pub offset_bounds-order-head : goal.offset_bounds-order-head
offset_bounds-order-head c = omega (arith, room_count c.loop-head.invariant.held.listed.room, c.loop-head-test.true)

pub bounds-order-head : goal.bounds-order-head
bounds-order-head c = omega (arith, room_count c.loop-head.invariant.held.listed.room, c.loop-head-test.true)

pub add_updates-count-requires : goal.add_updates-count-requires
add_updates-count-requires c = (search rules, search link_slot, search adds_room)

pub overflow_add-head : goal.overflow_add-head
overflow_add-head c = omega (arith, room_count c.loop-head.invariant.held.listed.room, c.loop-head-test.true)

pub loop-head-smaller : goal.loop-head-smaller
loop-head-smaller c = omega (arith, room_count c.loop-head.invariant.held.listed.room, c.loop-head-test.true)

pub loop-head-preserved : goal.loop-head-preserved
unfolding entry_at
loop-head-preserved c = search following_more

pub returns : goal.returns
returns c = following_all c.loop-head.invariant c.loop-head-test.false
