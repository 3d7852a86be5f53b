-- Plain laws of tests that every crate may cite.
use Rattle.std.specs.Prelude.{Bool, true, false, ◌&&◌, ◌≡◌, refl, ℕ}
use Rattle.std.proofs.Common.{arith}

-- false is not true
pub never : {X : Type 0} → false ≡ true → X
never e = absurd (let z : ◌≡◌ {A = ℕ} 0 1 = cc e in omega arith)

-- both of two tests that were passed
pub both_true : (a b : Bool) → (a && b) ≡ true → (a ≡ true) × (b ≡ true)
both_true true b e = (refl, e)
both_true false b e = never e
