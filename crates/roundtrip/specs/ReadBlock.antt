-- Labels read from a whole byte on are the same labels read from the rest of the bytes alone.
use Rattle.std.specs.Prelude.{Bool, true, false, ◌&&◌, List, ◌≡◌, leb, take, Ok, Some, None}
use Rattle.std.proofs.Math.Bool.{cond}
use Rattle.std.proofs.Math.Path.{refl, ap}
use Rattle.std.proofs.Common.{sym, ◌∙◌, get_or-drop}
use Prim.Native.Nat.{ℕ, zero, suc, ◌+◌, ◌-◌, ◌*◌, ◌/◌, ◌%◌, ◌^◌, ◌<◌, ◌≤◌}
use Rattle.std.proofs.Math.Nat.{add_assoc}
use native.Mathlib.Omega.{arith}
use Rattle.std.proofs.Math.ListN.{length, get_or, drop, length-drop}
use Rattle.std.proofs.Math.Seq.{drop-drop}
use borrow.Author.Tests.{leb-true, leb-false, le-leb, lt-leb, eq-eqb}
use Rattle.refusals.specs.declared.Refusal.{Refusal}
use Rattle.refusals.specs.Numbering.{unless}
use Rattle.bits.specs.Bits.{number_from, bit_at, bits_at, field_at, wholly, widest}
use Rattle.bits.specs.Reading.{Got, got, refused, judged}
use Rattle.table.specs.declared.Table.{Table}
use Rattle.table.specs.Tables.{labels_before}
use Rattle.script.specs.declared.Span.{Span}
use Rattle.script.specs.Labels.{printable, text, label, labels}
use Rattle.script.specs.Writer.{block_fault}
use Rattle.bits.specs.Giving.{Gives, gives_value, gives_refused, gives_onward, gives_field}

-- two tests of order that say the same
same_test : (a b c d : ℕ) → (a ≤ b → c ≤ d) → (b < a → d < c) → leb a b ≡ leb c d
same_test a b c d less more = by_test (leb a b) refl
  where
    by_test : (p : Bool) → leb a b ≡ p → p ≡ leb c d
    by_test true e = sym (le-leb c d (less (leb-true a b e)))
    by_test false e = sym (lt-leb c d (more (leb-false a b e)))

-- a number of bits that stand k bits later
number_later : (f g : ℕ → ℕ) (k at w : ℕ) → ((j : ℕ) → f j ≡ g (k + j)) → number_from f at w ≡ number_from g (k + at) w
unfolding number_from
number_later f g k at zero same = refl
number_later f g k at (suc w) same = rw (number_later f g k at w same, same (at + w), add_assoc k at w)

-- a reading that gives something, and ends k bits before that
record Before {A : Type 0} (k : ℕ) (g : Got A) (next : ℕ) : Type 0 where
  value : A
  end : ℕ
  later : next ≡ k + end
  given : g ≡ got value end

-- a label's text under the same two tests
text_tests : (there good : Bool) (k next end : ℕ) (span span' : Span) → next ≡ k + end
    → Gives (cond there (judged (unless good Refusal.Label) span next) (refused Refusal.Cut))
    (λ a n. Before k (cond there (judged (unless good Refusal.Label) span' end) (refused Refusal.Cut)) n)
text_tests true true k next end span span' same = gives_value (record { value = span'; end = end; later = same; given = refl })
text_tests true false k next end span span' same = gives_refused
text_tests false good k next end span span' same = gives_refused

module _ (s : List ℕ) (m : ℕ) (within : m ≤ length s) where
  -- bits, fields, texts and labels of the bytes after the first m
  bit_dropped : (j : ℕ) → bit_at (drop m s) j ≡ bit_at s (8 * m + j)
  unfolding bit_at
  bit_dropped j =
      let byte : m + j / 8 ≡ (8 * m + j) / 8 = omega arith in
      let place : j % 8 ≡ (8 * m + j) % 8 = omega arith in
      ap (λ (b : ℕ). b / 2 ^ (7 - j % 8) % 2) (get_or-drop m s (j / 8) 0 ∙ ap (λ (i : ℕ). get_or s i 0) byte)
      ∙ ap (λ (i : ℕ). get_or s ((8 * m + j) / 8) 0 / 2 ^ (7 - i) % 2) place

  wholly_dropped : (at w : ℕ) → wholly (drop m s) at w ≡ wholly s (8 * m + at) w
  wholly_dropped at w =
      let long = length-drop m s in
      same_test (at + w) (8 * length (drop m s)) (8 * m + at + w) (8 * length s) (λ h. omega arith) (λ h. omega arith)

  field_dropped : (at w : ℕ) → field_at (drop m s) at w ≡ field_at s (8 * m + at) w
  unfolding field_at bits_at
  field_dropped at w =
      ap (λ (b : Bool). cond (leb w widest && b) (Some (number_from (bit_at (drop m s)) at w)) None) (wholly_dropped at w)
      ∙ ap (λ (v : ℕ). cond (leb w widest && wholly s (8 * m + at) w) (Some v) None)
      (number_later (bit_at (drop m s)) (bit_at s) (8 * m) at w bit_dropped)

  text_dropped : (size at : ℕ) → Gives (text size s (8 * m + at)) (λ span next. Before (8 * m) (text size (drop m s) at) next)
  unfolding text
  text_dropped size at =
      let byte : m + at / 8 ≡ (8 * m + at) / 8 = omega arith in
      let same : drop (at / 8) (drop m s) ≡ drop ((8 * m + at) / 8) s = drop-drop (at / 8) m s ∙ ap (λ (i : ℕ). drop i s) byte in
      rw (wholly_dropped at (8 * size), same)
      (text_tests (wholly s (8 * m + at) (8 * size)) (printable (take size (drop ((8 * m + at) / 8) s))) (8 * m) (8 * m + at + 8 * size) (at + 8 * size)
      (record { from = (8 * m + at) / 8; size = size }) (record { from = at / 8; size = size }) (omega arith))

  label_dropped : (at : ℕ) → Gives (label s (8 * m + at)) (λ span next. Before (8 * m) (label (drop m s) at) next)
  unfolding label
  label_dropped at =
      gives_field s (8 * m + at) 8 _ _ _ (λ size there good.
      rw (field_dropped at 8, there, good, add_assoc (8 * m) at 8) (text_dropped size (at + 8)))

  labels_dropped : (count at : ℕ) → Gives (labels count s (8 * m + at)) (λ a next. Before (8 * m) (labels count (drop m s) at) next)
  unfolding labels
  labels_dropped zero at = gives_value (record { value = 0; end = at; later = refl; given = refl })
  labels_dropped (suc count) at =
      gives_onward (λ span next e.
      let b = (label_dropped at).told span next e in
      rw (b.later, b.given) (labels_dropped count b.end))

  -- "the block": accepted where reading the labels goes to the end of the bytes
  pub block_sound : (t : Table) (count : ℕ) → labels (labels_before t t.n) s (8 * m) ≡ got count (8 * length s)
      → block_fault t (drop m s) ≡ Ok tt
  unfolding block_fault
  block_sound t count e =
      let from_start : labels (labels_before t t.n) s (8 * m + 0) ≡ got count (8 * length s) = ap (labels (labels_before t t.n) s) (omega arith) ∙ e in
      let b = (labels_dropped (labels_before t t.n) 0).told count (8 * length s) from_start in
      let all : b.end ≡ 8 * length (drop m s) = omega (arith, b.later, length-drop m s) in
      rw (b.given, eq-eqb b.end (8 * length (drop m s)) all)
