-- `writer::sizes::packed_size` meets its contract. The loop's invariant: the width of all that comes before entry k.
use mathlib.Core.Path.{◌≡◌, sym, ◌∙◌, ap}
use Prim.Native.Nat.{ℕ, ◌+◌, ◌/◌}
use native.Mathlib.Omega.{arith}
use Rattle.bits.specs.Holding.{width_of_all}
use Rattle.table.specs.Tables.{entry_at}
use Rattle.script.specs.Writer.{joined}
use Rattle.writer.specs.Widths.{entry_wide, entries_wide, entries_more, table_width}
use Rattle.writer.proofs.sizes.packed_size.Goals as goal

pub loop-k-init : goal.loop-k-init
unfolding joined width_of_all
loop-k-init c = omega arith

pub overflow_add-width-in-loop-k : goal.overflow_add-width-in-loop-k
unfolding entry_at
overflow_add-width-in-loop-k c =
    let t = c.args.t in
    let k = c.loop-k.k in
    omega (arith, c.loop-k.invariant, entries_wide t k, c.entry_width-width.ensures, entry_wide (entry_at t k))

pub loop-k-preserved : goal.loop-k-preserved
unfolding entry_at
loop-k-preserved c =
    let t = c.args.t in
    let k = c.loop-k.k in
    omega (arith, c.loop-k.invariant, entries_more t k, c.entry_width-width.ensures)

pub overflow_add-result : goal.overflow_add-result
overflow_add-result c = omega (arith, entries_wide c.args.t c.loop-k.k)

pub returns : goal.returns
returns c =
    let t = c.args.t in
    let all : c.loop-k.k ≡ t.n = omega arith in
    ap (λ (w : ℕ). (w + 7) / 8) (rw all at c.loop-k.invariant ∙ sym (table_width t))
