-- `monitor::walk::places_at` meets its contract: the operands of a sound table's entry are there.
use Rattle.std.proofs.Common.{arith}
use Rattle.table.specs.Tables.{entry_at}
use Rattle.monitor.specs.Walking.{slots_enough, places_there}
use Rattle.monitor.proofs.walk.places_at.Goals as goal

pub offset_bounds-m-k : goal.offset_bounds-m-k
offset_bounds-m-k c = omega (arith, slots_enough c.args.m.now c.requires.0)

pub bounds-m-k : goal.bounds-m-k
bounds-m-k c = omega (arith, slots_enough c.args.m.now c.requires.0)

pub returns-clause-are : goal.returns-clause-are
unfolding entry_at
returns-clause-are c = c.places_of.ensures

pub returns-clause-inside : goal.returns-clause-inside
unfolding entry_at
returns-clause-inside c = places_there c.args.m.now c.args.k c.places_of.ensures c.requires.0 c.requires.1
