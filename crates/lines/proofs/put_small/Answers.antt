-- `lines::put_small` meets its contract: one digit, or two.
use native.Mathlib.Omega.{arith}
use Rattle.lines.specs.Decimals.{lays_digit, lays_two}
use Rattle.lines.proofs.put_small.Goals as goal

pub returns-then-one_digit : goal.returns-then-one_digit
returns-then-one_digit c = search (lays_digit, arith)

pub returns : goal.returns
returns c = search (lays_two, arith)
