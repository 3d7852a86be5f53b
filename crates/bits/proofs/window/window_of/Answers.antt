-- One more byte each turn; a number of seven bytes or fewer is not too large.
use borrow.Author.Rules.{rules}
use mathlib.Core.Path.{sym}
use Prim.Native.Nat.{◌+◌}
use native.Mathlib.Omega.{arith}
use Rattle.bits.specs.Bits.{number_from, bits_at}
use Rattle.bits.specs.Octets.{window_lt, window_more}
use Rattle.bits.proofs.window.window_of.Goals as goal

pub loop-i-init : goal.loop-i-init
unfolding bits_at number_from
loop-i-init c = search rules

pub overflow_mul-number : goal.overflow_mul-number
overflow_mul-number c = record { fits = omega (arith, window_lt c.args.s.now c.args.first c.loop-i.i (omega arith)) }

pub overflow_add-number-in-loop-i : goal.overflow_add-number-in-loop-i
overflow_add-number-in-loop-i c = record {
  fits = omega (
    arith,
    window_lt c.args.s.now c.args.first c.loop-i.i (omega arith),
    c.shared_slice_known-1.given (c.args.first + c.loop-i.i),
  );
}

pub loop-i-preserved : goal.loop-i-preserved
loop-i-preserved c =
    rw c.loop-i.invariant
    (sym (window_more c.args.s.now c.args.first c.loop-i.i (omega (arith, c.shared_slice_known-1.given (c.args.first + c.loop-i.i)))))
