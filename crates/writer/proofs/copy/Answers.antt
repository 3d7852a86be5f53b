-- `writer::copy` meets its contract. The loop's invariant: i bytes are copied.
use mathlib.Core.List.{List}
use mathlib.Core.Path.{sym, ◌∙◌, ap}
use Prim.Native.Nat.{ℕ, ◌+◌}
use native.Mathlib.Numerals.{add-one}
use native.Mathlib.Omega.{arith}
use lib.ListN.{get_or, set}
use lib.Seq.{paste, paste-suc}
use Rattle.writer.proofs.copy.Goals as goal

pub loop-i-preserved : goal.loop-i-preserved
loop-i-preserved c =
    let a = c.args in
    let i = c.loop-i.i in
    ap (λ (d : List ℕ). set d (a.from + i) (get_or a.block.now i 0)) c.loop-i.invariant
    ∙ paste-suc a.dst.now a.from a.block.now i 0 (omega arith) (omega arith)
    ∙ ap (paste a.dst.now a.from a.block.now) (sym (add-one i))
