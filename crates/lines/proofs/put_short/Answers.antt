-- `lines::put_short` meets its contract: up to two digits, or the hundreds and two digits more.
use native.Mathlib.Omega.{arith}
use Rattle.lines.specs.Decimals.{lays_hundreds}
use Rattle.lines.proofs.put_short.Goals as goal

pub returns : goal.returns
returns c = search (lays_hundreds, arith)
