-- `step::closing::rest_of_byte` meets its contract: no bits, or the last ones of a byte.
use Rattle.std.proofs.Common.{sym, ◌∙◌, arith}
use native.Mathlib.Nat.{one-mul}
use lib.Pow.{shl_exact}
use Rattle.step.specs.Padding.{rest_missing, rest_there}
use Rattle.step.proofs.closing.rest_of_byte.Goals as goal

pub returns-in_err-byte : goal.returns-in_err-byte
returns-in_err-byte c =
    rw c.from_residual.ensures
    (rest_missing _ c.args.at c.args.w c.requires (omega arith) (sym c.byte_at.ensures ∙ c.in_err-byte.was))

pub returns : goal.returns
returns c =
    rw (shl_exact {a = 1} 1 c.args.w 64 (omega arith) (omega arith), one-mul)
    (rest_there _ c.args.at c.args.w c.requires (omega arith) _ (sym c.byte_at.ensures ∙ c.in_ok-byte.was))
