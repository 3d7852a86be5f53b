-- `lines::put_byte` meets its contract: the byte is laid where there is room.
use native.Mathlib.Omega.{arith}
use Rattle.lines.specs.Laying.{lays_in, lays_out}
use Rattle.lines.proofs.put_byte.Goals as goal

pub returns-then-at-out : goal.returns-then-at-out
returns-then-at-out c = search (lays_in, arith)

pub returns-else-at-out : goal.returns-else-at-out
returns-else-at-out c = search (lays_out, arith)
