-- A row of numbers laid down from the front, one after another: how far it has come.
use Rattle.std.specs.Prelude.{List, ◌≡◌, ℕ, zero, suc, ◌+◌, ◌<◌, ◌≤◌, length, get_or, set}
use Rattle.std.proofs.Common.{◌∙◌, subst, arith, length-set, get_or-set_same, get_or-set_other}
use Rattle.std.proofs.Math.Decide.{ℕ_discrete}
use Rattle.bits.specs.Window.{stored}

-- the first of so many numbers are those of a row
pub record Begun (most : ℕ) (f : ℕ → ℕ) (at : ℕ) (s : List ℕ) : Type 0 where
  pub long : length s ≡ most
  pub same : (j : ℕ) → j < at → get_or s j 0 ≡ f j

-- one number more
pub begun_one : (most : ℕ) (f : ℕ → ℕ) (at w : ℕ) (s : List ℕ) → at < most → w ≡ f at → Begun most f at s → Begun most f (suc at) (set s at w)
begun_one most f at w s room word so =
    record {
      long = length-set s at w ∙ so.long;
      same = λ j h.
          elim (ℕ_discrete j at) [
            | yes e ↦ rw e (get_or-set_same s at w 0 (omega (arith, so.long)) ∙ word)
            | no e ↦ get_or-set_other s at j w 0 e ∙ so.same j (omega arith)
          ];
    }

-- one part more
pub begun_part : (most : ℕ) (f g : ℕ → ℕ) (at n : ℕ) (s : List ℕ) → at + n ≤ most → ((j : ℕ) → j < n → g j ≡ f (at + j)) → Begun most f at s
    → Begun most f (at + n) (stored s at g n)
unfolding stored
begun_part most f g at zero s room words so = subst (λ (k : ℕ). Begun most f k s) {x = at} {y = at + 0} (omega arith) so
begun_part most f g at (suc n) s room words so =
    subst (λ (k : ℕ). Begun most f k (set (stored s at g n) (at + n) (g n))) {x = suc (at + n)} {y = at + suc n} (omega arith)
    (begun_one most f (at + n) (g n) (stored s at g n) (omega arith) (words n (omega arith))
    (begun_part most f g at n s (omega arith) (λ j h. words j (omega arith)) so))
