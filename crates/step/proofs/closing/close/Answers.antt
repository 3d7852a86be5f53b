-- `step::closing::close` meets its contract, by the field of the zero bits; a whole byte ends at bit 8 times its number.
use Rattle.std.proofs.Common.{◌≡◌, sym, ◌∙◌, rules, arith, eq-eqb, ne_eqb, ◌+◌, ◌*◌, length, Some}
use Rattle.bits.specs.Bits.{field_at, padding_at}
use Rattle.step.specs.Stages.{closed}
use Rattle.step.proofs.closing.close.Goals.{In-Some}
use Rattle.step.proofs.closing.close.Goals as goal

-- the field that was taken
zeros-are : (k : In-Some) → let a = k.args in field_at a.s.now a.at (padding_at a.at) ≡ Some k.in-Some.zeros
zeros-are k = sym k.rest_of_byte.ensures ∙ k.in-Some.is

pub returns-in_default : goal.returns-in_default
unfolding closed
returns-in_default c = rw (sym c.rest_of_byte.ensures ∙ c.in_default.is) (search rules)

pub returns-then-padded : goal.returns-then-padded
unfolding closed
returns-then-padded c = rw (zeros-are (goal.at.returns-then-padded c).In-Some, ne_eqb c.in-Some.zeros 0 (λ e. omega arith))

pub returns-then-at-w : goal.returns-then-at-w
unfolding closed
returns-then-at-w c =
    let k : In-Some = (goal.at.returns-then-at-w c).In-Some in
    let a = k.args in
    rw (zeros-are k, eq-eqb k.in-Some.zeros 0 (omega arith), ne_eqb (a.at + padding_at a.at) (8 * length a.s.now) (λ e. omega arith))

pub returns : goal.returns
unfolding closed
returns c =
    let k : In-Some = (goal.at.returns c).In-Some in
    let a = k.args in
    rw (zeros-are k, eq-eqb k.in-Some.zeros 0 (omega arith), eq-eqb (a.at + padding_at a.at) (8 * length a.s.now) (omega arith))
