-- A turn puts what it read after what was read before.
use Rattle.std.proofs.Common.{◌≡◌, ℕ, ◌+◌, ◌≤◌, List, ◌++◌, length, take, ap, subst, sym, ◌∙◌, arith, length-take-le}
use Rattle.std.proofs.Math.Seq.{take-append-add}
use Rattle.std.proofs.lemmas.List.{take-append-le}
use Rattle.std.proofs.KnownBytes.{Consumes-trans}
use Rattle.std.specs.Io.KnownBytes.{Consumes}
use borrow.Rule.Slice.PartMut.{post_of, put_mid, same_len_mid}
use Rattle.casebook.proofs.input.read_full.Goals as goal

-- the first bytes, and those that were read after them
take_read : (a k n : ℕ) (xs ys : List ℕ) → a ≤ length xs → n ≤ length ys → take a xs ++ take n ys ≡ take (a + n) (put_mid a k xs ys)
take_read a k n xs ys within fits =
    sym (ap (λ (m : ℕ). take (m + n) (put_mid a k xs ys)) (sym (length-take-le a xs within))
    ∙ take-append-add (take a xs) (ys ++ post_of a k xs) n
    ∙ ap (λ (l : List ℕ). take a xs ++ l) (take-append-le n ys (post_of a k xs) fits))

pub loop-done-preserved : goal.loop-done-preserved
loop-done-preserved g c =
    let was = c.loop-done.room in
    let long = same_len_mid c.loop-done.done _ was c.read.new.buf c.read.auto.buf in
    let fits = c.in_ok-n.ensures.bound.0 in
    record {
      long = long ∙ c.loop-done.invariant.long;
      within = omega (arith, long);
      bytes =
          subst (Consumes _ _) (take_read c.loop-done.done _ c.in_ok-n.n was c.read.new.buf c.loop-done.invariant.within fits)
          (Consumes-trans _ _ _ _ _ c.loop-done.invariant.bytes c.in_ok-n.ensures.bytes.0);
    }
