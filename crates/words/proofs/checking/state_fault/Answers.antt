-- `words::checking::state_fault` meets its contract: the number of the words, then each of them, then the monitor in them.
use mathlib.Core.Path.{◌∙◌, ap, sym}
use lib.Seq.{take_all}
use native.Mathlib.Omega.{arith}
use Rattle.std.proofs.lemmas.List.{length-take-le}
use Rattle.std.proofs.lemmas.Bool.Decides.{Decides-eqb, not_from_Decides}
use Rattle.std.proofs.lemmas.Slice.Eq.{slice_eq-Decides}
use Rattle.monitor.specs.Keeping.{unsound}
use Rattle.words.specs.Layout.{state_of}
use Rattle.words.specs.Checking.{length_decides, same_decides, others_decide}
use Rattle.words.proofs.checking.state_fault.Goals as goal

pub returns-then-wrong_size : goal.returns-then-wrong_size
returns-then-wrong_size c = length_decides c.args.state.now (λ e. omega arith)

pub returns-then-same : goal.returns-then-same
returns-then-same c =
    same_decides c.args.state.now (c.pack.ensures ∙ ap state_of c.monitor_in-m.ensures)
    (sym (take_all 452 c.args.state.now (omega arith)) ∙ (slice_eq-Decides Decides-eqb _ _ _ c.eq-same.ensures).0 c.if-same.true)
    (c.unsound.ensures ∙ ap unsound c.monitor_in-m.ensures)

pub returns-else-same : goal.returns-else-same
returns-else-same c =
    others_decide c.args.state.now (c.pack.ensures ∙ ap state_of c.monitor_in-m.ensures)
    (λ same. not_from_Decides c.eq-same.result (slice_eq-Decides Decides-eqb _ _ _ c.eq-same.ensures) c.if-same.false (take_all 452 c.args.state.now (omega arith) ∙ same))

pub slice_bounds-front-end : goal.slice_bounds-front-end
slice_bounds-front-end c = sym (length-take-le 452 c.args.state.now (omega arith))
