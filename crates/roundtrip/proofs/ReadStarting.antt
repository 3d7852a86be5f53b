-- A variable's start, read: it is packed as the same two fields.
use Rattle.std.specs.Prelude.{true, ◌||◌, [], ◌∷◌, ◌≡◌, ℕ, zero, suc, ◌^◌, ◌<◌, eqb}
use Rattle.std.proofs.Common.{sym, ap, arith, eqb-true}
use Rattle.script.specs.Reader.{starting}
use Rattle.script.specs.Writer.{part, number_parts}
use Rattle.roundtrip.specs.ReadNumbers.{unsigned_signed}

-- "48 bits, two's complement; all zero where it starts undefined": a variable's start
pub starting_again : (bit v : ℕ) → bit < 2 → v < 2 ^ 48 → (eqb bit 1 || eqb v 0) ≡ true
    → number_parts (starting bit v) ≡ part 1 bit ∷ part 48 v ∷ []
starting_again zero v two h good = ap (λ (u : ℕ). part 1 0 ∷ part 48 u ∷ []) (sym (eqb-true v 0 good))
starting_again (suc zero) v two h good = ap (λ (u : ℕ). part 1 1 ∷ part 48 u ∷ []) (unsigned_signed v h)
starting_again (suc (suc b)) v two h good = absurd (omega arith)
