-- `writer::block_fault` meets its contract: there are as many labels as entries with a label, and their answer does not depend on the wanted one.
use mathlib.Core.Path.{◌∙◌, ap}
use Prim.Native.Nat.{ℕ}
use Rattle.script.specs.declared.Label.{Label}
use Rattle.labels.specs.Among.{label_among}
use Rattle.writer.specs.Writing.{block_answer}
use Rattle.writer.proofs.block_fault.Goals as goal

pub returns : goal.returns
returns c =
    let a = c.args in
    let count = c.before-count.result in
    let all = c.before-count.ensures in
    ap (λ (l : Label). l.answer) c.read-label.ensures
    ∙ ap (λ (n : ℕ). (label_among n count a.block.now 0).answer) all
    ∙ block_answer a.t a.block.now count
