-- `replaying::framing::record_at` meets its contract: by how many bytes are left, and the length that the first two make. A byte is below 256.
use native.Mathlib.Omega.{arith}
use Rattle.replaying.specs.Framing.{framed_end, framed_byte, framed_cut, framed_whole}
use Rattle.replaying.proofs.framing.record_at.Goals as goal

pub returns-then-left-eq0 : goal.returns-then-left-eq0
returns-then-left-eq0 c = framed_end _ _ (omega arith)

pub returns-then-left-eq1 : goal.returns-then-left-eq1
returns-then-left-eq1 c = framed_byte _ _ (omega arith)

pub returns-then-left-size : goal.returns-then-left-size
returns-then-left-size c = framed_cut _ _ (omega arith) (omega arith)

pub returns : goal.returns
returns c = framed_whole _ _ (omega arith)
