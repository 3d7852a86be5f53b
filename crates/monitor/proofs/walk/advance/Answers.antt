-- `monitor::walk::advance` meets its contract: the walk has come to entry k.
use Rattle.std.proofs.Common.{refl, arith}
use Rattle.table.specs.Tables.{entry_at}
use Rattle.monitor.specs.Stepping.{result_in, walk_to}
use Rattle.monitor.specs.Walking.{slots_enough, entry_taken, held_given, held_left, all_taken}
use Rattle.monitor.proofs.walk.advance.Goals.{else-done, then-done}
use Rattle.monitor.proofs.walk.advance.Goals as goal

-- no entry is taken yet
pub loop-k-init : goal.loop-k-init
unfolding walk_to
loop-k-init c = record { slots = slots_enough c.args.m c.requires.0; within = omega arith; walk = refl }

-- entry k is taken, and where it is an update that is done its variable has the number
pub loop-k-preserved : goal.loop-k-preserved
unfolding entry_at
loop-k-preserved c =
    let o = c.judge-judged.result.outcome in
    let y = result_in c.loop-k.results c.places_at-p.result.second in
    let v = c.places_at-p.result.variable in
    let done = c.done.ensures in
    record {
      slots = c.loop-k.invariant.slots;
      within = omega (arith, c.loop-k-test.true);
      walk = entry_taken c.args.m c.loop-k.k c.places_at-p.ensures.are c.args.s c.loop-k.invariant.walk
          c.judge-judged.ensures.0 c.judge-judged.ensures.1
          (elim c.if-done.branch [ then-done way ↦ held_given o y v c.loop-k.held done way.if-done.true way.number.ensures way.held-is | else-done way ↦ held_left o y v c.loop-k.held done way.if-done.false way.held-is ]);
    }

-- all entries are taken
pub returns : goal.returns
returns c = all_taken c.args.m c.args.s c.loop-k.k c.loop-k.invariant.walk (omega arith) (omega arith)
