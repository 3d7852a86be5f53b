-- Each of the four is a byte.
use Prim.Native.Nat.{ℕ, ◌+◌, ◌<◌}
use native.Mathlib.Omega.{arith}
use lib.ListN.{get_or}
use Rattle.bits.specs.Octets.{four_bytes}
use Rattle.bits.proofs.wide.four.Goals.{After-shared_slice_known-1}
use Rattle.bits.proofs.wide.four.Goals as goal

-- the four bytes are below 256
abbrev Small : (ℕ → ℕ) → ℕ → Type 0
Small byte i = (byte i < 256) × (byte (i + 1) < 256) × (byte (i + 2) < 256) × (byte (i + 3) < 256)

small : (c : After-shared_slice_known-1) → Small (λ i. get_or c.args.s.now i 0) c.args.first
small c =
    let i = c.args.first in
    let byte = c.shared_slice_known-1.given in
    (omega (arith, byte i), omega (arith, byte (i + 1)), omega (arith, byte (i + 2)), omega (arith, byte (i + 3)))

pub returns : goal.returns
returns c =
    omega (arith, four_bytes c.args.s.now c.args.first (small (goal.at.returns c).After-shared_slice_known-1).0 (small (goal.at.returns c).After-shared_slice_known-1).1 (small (goal.at.returns c).After-shared_slice_known-1).2 (small (goal.at.returns c).After-shared_slice_known-1).3)
