-- A text that there is room for is laid whole.
use Rattle.std.specs.Prelude.{List, [], ◌∷◌, ◌++◌, ◌≡◌, ℕ, suc, ◌+◌, ◌≤◌, length, set, take}
use Rattle.std.proofs.Common.{append-nil, sym, ◌∙◌, ap, add-zero, zero-add, arith, lt-ltb, length-set, take-suc-set}
use Rattle.std.proofs.Math.Seq.{append_snoc}
use Rattle.lines.specs.Laying.{end_of, laid}

-- the place goes on by as many bytes as the text has
pub end_whole : (room at : ℕ) (text : List ℕ) → at + length text ≤ room → end_of room at text ≡ at + length text
unfolding end_of
end_whole room at [] fits = sym (add-zero at)
end_whole room at (b ∷ text) fits = rw (lt-ltb at room (omega arith)) (end_whole room (suc at) text (omega arith) ∙ omega arith)

-- what stood before the place stays, and the text comes after it
pub laid_at : (dst : List ℕ) (at : ℕ) (text : List ℕ) → at + length text ≤ length dst → take (at + length text) (laid dst at text) ≡ take at dst ++ text
unfolding laid
laid_at dst at [] fits = ap (λ (n : ℕ). take n dst) (add-zero at) ∙ sym (append-nil (take at dst))
laid_at dst at (b ∷ text) fits =
    rw (lt-ltb at (length dst) (omega arith))
    (ap (λ (n : ℕ). take n (laid (set dst at b) (suc at) text)) {x = at + suc (length text)} {y = suc at + length text} (omega arith)
    ∙ laid_at (set dst at b) (suc at) text (omega (arith, length-set dst at b))
    ∙ ap (λ (l : List ℕ). l ++ text) (take-suc-set dst at b (omega arith))
    ∙ append_snoc (take at dst) b text)

-- from the first byte on: as many bytes are filled as the text has, and they are the text
pub laid_whole : (dst text : List ℕ) → length text ≤ length dst → (end_of (length dst) 0 text ≡ length text) × (take (length text) (laid dst 0 text) ≡ text)
laid_whole dst text fits = (
  end_whole (length dst) 0 text (omega arith) ∙ zero-add (length text),
  ap (λ (n : ℕ). take n (laid dst 0 text)) (sym (zero-add (length text))) ∙ laid_at dst 0 text (omega arith),
)
