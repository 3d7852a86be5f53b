-- `writer::packing::put_entries` meets its contract. The loop's invariant: the entries passed are put.
use native.Mathlib.Omega.{arith}
use Rattle.table.specs.Tables.{entry_at}
use Rattle.script.specs.Writer.{entry_parts}
use Rattle.writer.specs.Puts.{puts_start, puts_joined}
use Rattle.writer.specs.Widths.{entries_wide}
use Rattle.writer.proofs.packing.put_entries.Goals as goal

pub loop-k-init : goal.loop-k-init
loop-k-init c = let t = c.args.t in puts_start (λ k. entry_parts (entry_at t k))

pub put_entry-at-requires : goal.put_entry-at-requires
put_entry-at-requires c =
    let loop = c.loop-k in
    omega (arith, loop.invariant.ends, entries_wide c.args.t loop.k)

pub loop-k-preserved : goal.loop-k-preserved
unfolding entry_at
loop-k-preserved c = search puts_joined
