-- `reader::head::variables` meets its contract. The loop's invariant: what is left to read, from here, gives what all of it gives from the start.
use Rattle.std.proofs.Common.{Some}
use borrow.Author.Rules.{rules}
use borrow.Author.Tests.{eq-eqb, ne_eqb}
use mathlib.Core.Bool.{true, false, ◌||◌}
use mathlib.Core.Path.{◌≡◌, sym, ◌∙◌, ap, ap₂}
use Prim.Native.Nat.{ℕ, ◌+◌, ◌-◌}
use native.Mathlib.Omega.{arith}
use lib.Dec.{eqb}
use Rattle.bits.specs.Bits.{field_at}
use Rattle.script.specs.Reader.{starting, with_variable, variables}
use Rattle.reader.specs.Heads.{variable_cut, number_cut, variable_refused, variable_next, variables_done}
use Rattle.reader.proofs.head.variables.Goals.{else-undefined-via-else-undefined, else-undefined-via-then-undefined+else-number-ne0}
use Rattle.reader.proofs.head.variables.Goals as goal

pub returns-in_default : goal.returns-in_default
returns-in_default c =
    let cut = variable_cut c.args.t.v c.loop-x.x c.loop-x-test.true c.loop-x.table c.args.s.now c.loop-x.next
    (sym c.field_at.ensures ∙ c.in_default.is) in
    rw (sym c.loop-x.invariant.1 ∙ cut) (search rules)

pub returns-in_default-field_at : goal.returns-in_default-field_at
returns-in_default-field_at c =
    let bit : ℕ = c.in-Some.bit in
    let bit_is : field_at c.args.s.now c.loop-x.next 1 ≡ Some bit = sym c.field_at.ensures ∙ c.in-Some.is in
    let cut = number_cut c.args.t.v c.loop-x.x c.loop-x-test.true c.loop-x.table c.args.s.now c.loop-x.next
    bit bit_is (sym c.field_at-in-loop-x.ensures ∙ c.in_default-field_at.is) in
    rw (sym c.loop-x.invariant.1 ∙ cut) (search rules)

pub returns-then-number-ne0 : goal.returns-then-number-ne0
returns-then-number-ne0 c =
    let bit : ℕ = c.in-Some.bit in
    let number : ℕ = c.in-Some-field_at.number in
    let bit_is : field_at c.args.s.now c.loop-x.next 1 ≡ Some bit = sym c.field_at.ensures ∙ c.in-Some.is in
    let unsound : (eqb bit 1 || eqb number 0) ≡ false = ap₂ ◌||◌ (ne_eqb bit 1 c.if-undefined.true) (ne_eqb number 0 c.if-number-ne0.true) in
    sym (variable_refused c.args.t.v c.loop-x.x c.loop-x-test.true c.loop-x.table c.args.s.now c.loop-x.next
    bit bit_is number (sym c.field_at-in-loop-x.ensures ∙ c.in-Some-field_at.is) unsound)
    ∙ c.loop-x.invariant.1

pub loop-x-preserved : goal.loop-x-preserved
loop-x-preserved c =
    let bit : ℕ = c.in-Some.bit in
    let number : ℕ = c.in-Some-field_at.number in
    let bit_is : field_at c.args.s.now c.loop-x.next 1 ≡ Some bit = sym c.field_at.ensures ∙ c.in-Some.is in
    let sound : (eqb bit 1 || eqb number 0) ≡ true = elim c.else-undefined.branch [ else-undefined-via-then-undefined+else-number-ne0 w ↦ ap₂ ◌||◌ (ne_eqb bit 1 w.if-undefined.true) (eq-eqb number 0 w.if-number-ne0.false) | else-undefined-via-else-undefined w ↦ rw (eq-eqb bit 1 w.if-undefined.false) ] in (
      omega arith,
      rw c.starting.ensures
          (ap (variables (c.args.t.v - (c.loop-x.x + 1)) (c.loop-x.x + 1) (with_variable c.loop-x.table c.loop-x.x (starting bit number)) c.args.s.now)
          {x = c.loop-x.next + 49} {y = c.loop-x.next + 1 + 48} (omega arith)
          ∙ sym (variable_next c.args.t.v c.loop-x.x c.loop-x-test.true c.loop-x.table c.args.s.now c.loop-x.next
          bit bit_is number (sym c.field_at-in-loop-x.ensures ∙ c.in-Some-field_at.is) sound)
          ∙ c.loop-x.invariant.1),
    )

pub returns : goal.returns
returns c =
    sym (variables_done c.args.t.v c.loop-x.x c.loop-x-test.false c.loop-x.table c.args.s.now c.loop-x.next)
    ∙ c.loop-x.invariant.1
