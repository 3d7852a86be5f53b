-- `labels::among` meets its contract. The loop's invariant: j labels are passed.
use mathlib.Core.Path.{◌≡◌, sym, ◌∙◌}
use Prim.Native.Nat.{◌+◌, ◌*◌, ◌≤◌}
use native.Mathlib.Omega.{arith}
use lib.ListN.{length}
use Rattle.std.proofs.lemmas.Result.{err_from_is_err_and}
use Rattle.bits.specs.Reading.{got}
use Rattle.script.specs.Labels.{label}
use Rattle.labels.specs.Laws.{found_refused, found_at}
use Rattle.labels.specs.Passed.{passed_wanted, passed_other, passed_refused, passed_left_over, passed_all}
use Rattle.labels.proofs.among.Goals.{then-j-wanted, else-j-wanted}
use Rattle.labels.proofs.among.Goals as goal

pub returns-in_err-text : goal.returns-in_err-text
returns-in_err-text c =
    let p = err_from_is_err_and c.from_residual.result c.from_residual.ensures.1 in
    let here = found_refused c.args.s.now c.loop-j.at c.in_err-text.field-0.0 (sym c.one.ensures ∙ c.in_err-text.was) in
    rw (p.1, p.2) (sym (passed_refused c.loop-j.invariant c.loop-j-test.true here))

pub overflow_add-at : goal.overflow_add-at
overflow_add-at c =
    let taken : (label c.args.s.now (8 * c.loop-j.at) ≡ got c.in_ok-text.text (8 * (c.in_ok-text.text.from + c.in_ok-text.text.size))) × (c.in_ok-text.text.from + c.in_ok-text.text.size ≤ length c.args.s.now) = found_at c.args.s.now c.loop-j.at c.in_ok-text.text
    (sym c.one.ensures ∙ c.in_ok-text.was) in
    omega (arith, taken.1)

pub loop-j-preserved : goal.loop-j-preserved
loop-j-preserved c =
    let taken : (label c.args.s.now (8 * c.loop-j.at) ≡ got c.in_ok-text.text (8 * (c.in_ok-text.text.from + c.in_ok-text.text.size))) × (c.in_ok-text.text.from + c.in_ok-text.text.size ≤ length c.args.s.now) = found_at c.args.s.now c.loop-j.at c.in_ok-text.text
    (sym c.one.ensures ∙ c.in_ok-text.was) in
    let passed = c.loop-j.invariant in
    let more = c.loop-j-test.true in
    let here = taken.0 in
    elim c.if-j-wanted.branch [ then-j-wanted w ↦ rw w.span-is (passed_wanted passed more here (omega arith)) | else-j-wanted w ↦ rw w.span-is (passed_other passed more here (λ e. omega arith)) ]

pub returns-then-at-s : goal.returns-then-at-s
returns-then-at-s c = sym (passed_left_over c.loop-j.invariant c.loop-j-test.false (λ end. omega arith))

pub returns : goal.returns
returns c = sym (passed_all c.loop-j.invariant c.loop-j-test.false (omega arith))
