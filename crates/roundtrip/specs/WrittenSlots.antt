-- Slots that are filled one after another: the first of a list, and unused ones after them.
use Rattle.std.specs.Prelude.{List, ◌++◌, ◌≡◌, ℕ, suc, ◌+◌, ◌-◌, ◌<◌, ◌≤◌, length, get_or, set, take, drop, replicate}
use Rattle.std.proofs.Common.{sym, ap, ◌∙◌, arith, length-drop, take-append-drop, length-take-le, take-suc, ext_get_or, get_or-drop, get_or-take}
use Rattle.std.proofs.lemmas.List.{length-replicate, get_or-replicate, set_at}
use Rattle.std.proofs.Math.ListN.{get_or-append}
use Rattle.std.proofs.Math.Seq.{append_snoc}

module _ {A : Type 0} (size : ℕ) (unused : A) where
  -- of `size` slots, the first i as they are in l, and the others unused
  abbrev pub filled : ℕ → List A → List A
  filled i l = take i l ++ replicate (size - i) unused

  -- one more slot
  pub filled_next : (l : List A) (i : ℕ) (d : A) → length l ≡ size → i < size → set (filled i l) i (get_or l i d) ≡ filled (suc i) l
  filled_next l i d long h =
      let more : size - i ≡ suc (size - suc i) = omega arith in
      ap (λ (k : ℕ). set (take i l ++ replicate k unused) i (get_or l i d)) more
      ∙ set_at (take i l) unused (replicate (size - suc i) unused) (get_or l i d) i (length-take-le i l (omega arith))
      ∙ sym (append_snoc (take i l) (get_or l i d) (replicate (size - suc i) unused))
      ∙ ap (λ (r : List A). r ++ replicate (size - suc i) unused) (sym (take-suc l i d (omega arith)))

  -- what is filled is as it is in l
  pub filled_same : (l : List A) (i j : ℕ) (d : A) → i ≤ length l → j < i → get_or (filled i l) j d ≡ get_or l j d
  filled_same l i j d long h =
      get_or-append (take i l) (replicate (size - i) unused) d j (rw (length-take-le i l long) h) ∙ get_or-take i l j d h

  -- once the others are unused in l too, all of it is there
  pub filled_all : (l : List A) (n : ℕ) (d : A) → length l ≡ size → ((i : ℕ) → n ≤ i → i < size → get_or l i d ≡ unused) → filled n l ≡ l
  filled_all l n d long rest =
      let same : drop n l ≡ replicate (size - n) unused = ext_get_or d (drop n l) (replicate (size - n) unused)
      (length-drop n l ∙ ap (λ (k : ℕ). k - n) long ∙ sym (length-replicate (size - n) unused))
      (λ i b. get_or-drop n l i d ∙ rest (n + i) (omega arith) (omega (arith, length-drop n l))
      ∙ sym (get_or-replicate (size - n) i unused d (omega (arith, length-drop n l)))) in
      ap (λ (r : List A). take n l ++ r) (sym same) ∙ take-append-drop n l
