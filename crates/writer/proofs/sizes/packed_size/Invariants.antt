-- `writer::sizes::packed_size` meets its contract. The loop's invariant: the width of all that comes before entry k.
use mathlib.Core.Path.{◌≡◌}
use Prim.Native.Nat.{◌+◌, ◌*◌}
use Rattle.bits.specs.Holding.{width_of_all}
use Rattle.writer.specs.Parts.{entries_parts}
use Rattle.writer.proofs.sizes.packed_size.Given as goal

abbrev pub invariant-loop-k : goal.invariant-loop-k
invariant-loop-k l = (l.width ≡ 32 + l.fn.t.q + l.fn.t.v * 49 + width_of_all (entries_parts l.fn.t l.k))
