-- `lines::put_decimal` meets its contract: the digits of the ten thousands are laid, then the last four.
use native.Mathlib.Omega.{arith}
use Rattle.lines.specs.Decimals.{lays_thousands}
use Rattle.lines.proofs.+put_decimal.Goals as goal

pub returns : goal.returns
returns t c = search (lays_thousands, arith)
