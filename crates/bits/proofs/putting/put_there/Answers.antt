-- The window, with the field replaced, is stored again.
use mathlib.Core.Path.{◌∙◌, ap}
use Prim.Native.Nat.{ℕ, ◌-◌, ◌*◌, ◌%◌}
use native.Mathlib.Omega.{arith}
use Rattle.bits.specs.Window.{replaced, window_put, replaced_shifted}
use Rattle.bits.proofs.putting.put_there.Goals as goal

pub returns : goal.returns
returns c =
    let a = c.args in
    let base = c.min-base.result in
    let count = c.min-count.result in
    let after = 8 * count - (a.at - 8 * base) - a.w in
    window_put a.s.now a.at a.w a.v base count after
    (λ i h. omega (arith, c.slice_known-1.given i)) (omega arith) (omega arith) (omega arith) (omega arith) (omega arith)
    c.window_of-window.ensures
    (c.replace.ensures ∙ ap (λ (n : ℕ). replaced c.window_of-window.result a.w n a.v) {y = after % 64} (omega arith) ∙ replaced_shifted c.window_of-window.result 64 a.w after a.v (omega arith))
    c.store.ensures
