-- An array that is made by calls at 0, 1, .. in turn, of a function that changes nothing.
use Rattle.std.specs.Prelude.{List, ◌≡◌, ℕ, zero, suc, ◌+◌, ◌<◌, ◌≤◌, get_or}
use Rattle.std.specs.Fn.{Mut, Called}
use Rattle.std.specs.Array.{IsFromFnResultFrom, IsFromFnResult}
use Rattle.std.proofs.Common.{sym, ◌∙◌, ap, subst, arith, eq-or-lt_of_le}
use Rattle.std.proofs.Math.Logic.{⊎_elim}
use Rattle.bits.specs.Bits.{list_to}
use Rattle.bits.specs.Filled.{list_is}

module _ {F A : Type 0} (g : Mut F (ℕ × Unit {0}) A) (f : F) (at : ℕ → A)
    (gives : (i : ℕ) (a : A) (f' : F) → Called g f (i, tt) a f' → (a ≡ at i) × (f' ≡ f)) where
  -- each of the n places from i on
  each_made : (l : List A) (i n : ℕ) → IsFromFnResultFrom g f l i n → (k : ℕ) → i ≤ k → k < i + n → (d : A) → get_or l k d ≡ at k
  each_made l i zero made k low high d = absurd (omega arith)
  each_made l i (suc n) (f', a, there, call, rest) k low high d =
      let here = gives i a f' call in
      ⊎_elim
      (λ e. ap (λ (j : ℕ). get_or l j d) (sym e) ∙ there.1 d ∙ here.0 ∙ ap at e)
      (λ later. each_made l (i + 1) n (subst (λ (p : F). IsFromFnResultFrom g p l (i + 1) n) here.1 rest) k (omega arith) (omega arith) d)
      (eq-or-lt_of_le {n = i} {m = k} low)

  -- all of them
  pub made_all : (l : List A) (n : ℕ) → IsFromFnResult g f l n → l ≡ list_to n at
  made_all l n made = list_is n at (at 0) l made.long (λ i h. each_made l 0 n made.each i (omega arith) (omega arith) (at 0))
