-- Labels that stand after whole bytes are read as they are by themselves.
use Rattle.std.specs.Prelude.{Bool, true, false, cond, List, ◌++◌, ◌≡◌, leb, eqb, take, drop, Ok, Err, Some, None, Option, ℕ}
use Rattle.std.proofs.Math.Path.{refl, ap}
use Rattle.std.proofs.Common.{sym, ◌∙◌, add-zero, leb-true, le-leb, eqb-true, eq-eqb, length-append}
use Prim.Native.Nat.{ℕ, zero, suc, ◌+◌, ◌*◌, ◌/◌, ◌%◌}
use Rattle.std.proofs.Math.Nat.{add_assoc}
use native.Mathlib.Omega.{arith}
use Rattle.std.proofs.Math.ListN.{length}
use Rattle.std.proofs.Math.Seq.{get_or-append-add, drop-append-add}
use Rattle.refusals.specs.declared.Refusal.{Refusal}
use Rattle.refusals.specs.Answers.{Answer}
use Rattle.refusals.specs.Numbering.{unless}
use Rattle.bits.specs.Bits.{number_from, bit_at, bits_at, wholly, field_at}
use Rattle.bits.specs.Reading.{Got, got, refused, onward, ◌>>=◌, judged, taken, field, ended}
use Rattle.table.specs.Limits.{limits}
use Rattle.script.specs.declared.Span.{Span}
use Rattle.script.specs.Labels.{printable, text, label, labels}

-- two tests that hold together
same_test : (p q : Bool) → (p ≡ true → q ≡ true) → (q ≡ true → p ≡ true) → p ≡ q
same_test true true f g = refl
same_test true false f g = sym (f refl)
same_test false true f g = g refl
same_test false false f g = refl

-- what was read, so many bits further on
abbrev pub moved : {A : Type 0} → (A → A) → ℕ → Got A → Got A
moved f far (got a next) = got (f a) (far + next)
moved f far (refused r) = refused r

-- a number is the same wherever it stands
abbrev pub same : ℕ → ℕ
same v = v

-- a part of the bytes, so many bytes further on
abbrev pub span_after : ℕ → Span → Span
span_after far span = record { from = far + span.from; size = span.size }

-- judged, and moved
judged_moved : {A : Type 0} (f : A → A) (far : ℕ) (answer : Answer) (a : A) (next : ℕ)
    → judged answer (f a) (far + next) ≡ moved f far (judged answer a next)
judged_moved f far (Ok _) a next = refl
judged_moved f far (Err r) a next = refl

-- tested, and moved
tested_moved : {A : Type 0} (f : A → A) (far : ℕ) (b : Bool) (r : Refusal) (here there : Got A) → there ≡ moved f far here
    → cond b there (refused r) ≡ moved f far (cond b here (refused r))
tested_moved f far true r here there e = e
tested_moved f far false r here there e = refl

-- taken, and moved
taken_moved : (cut : Refusal) (judge : ℕ → Answer) (far next : ℕ) (f : Option ℕ) → taken cut judge (far + next) f ≡ moved same far (taken cut judge next f)
taken_moved cut judge far next None = refl
taken_moved cut judge far next (Some v) = judged_moved same far (judge v) v next

-- one reading and then another, each moved
onward_moved : {A B : Type 0} (f : A → A) (g : B → B) (far : ℕ) (first : Got A) (then after : A → ℕ → Got B)
    → ((a : A) (next : ℕ) → after (f a) (far + next) ≡ moved g far (then a next)) → onward (moved f far first) after ≡ moved g far (onward first then)
onward_moved f g far (got a next) then after each = each a next
onward_moved f g far (refused r) then after each = refl

-- the length of a label is judged
abbrev label_size : ℕ → Answer
label_size size = unless (leb size limits.label) Refusal.Label

module _ (front s : List ℕ) where
  -- a bit that stands so many whole bytes further on
  bit_after : (at : ℕ) → bit_at (front ++ s) (8 * length front + at) ≡ bit_at s at
  unfolding bit_at
  bit_after at =
      let byte : (8 * length front + at) / 8 ≡ length front + at / 8 = omega arith in
      let place : (8 * length front + at) % 8 ≡ at % 8 = omega arith in
      rw (byte, place, get_or-append-add front s (at / 8) 0)

  -- the number that bits make
  bits_after : (at w : ℕ) → bits_at (front ++ s) (8 * length front + at) w ≡ bits_at s at w
  unfolding bits_at number_from
  bits_after at zero = refl
  bits_after at (suc w) = rw (bits_after at w, add_assoc (8 * length front) at w, bit_after (at + w))

  -- whether a field ends within the bytes
  wholly_after : (at w : ℕ) → wholly (front ++ s) (8 * length front + at) w ≡ wholly s at w
  wholly_after at w =
      same_test (wholly (front ++ s) (8 * length front + at) w) (wholly s at w)
      (λ there. le-leb (at + w) (8 * length s)
      (omega (arith, leb-true (8 * length front + at + w) (8 * length (front ++ s)) there, length-append front s)))
      (λ here. le-leb (8 * length front + at + w) (8 * length (front ++ s)) (omega (arith, leb-true (at + w) (8 * length s) here, length-append front s)))

  -- a field
  pub field_after : (at w : ℕ) → field_at (front ++ s) (8 * length front + at) w ≡ field_at s at w
  unfolding field_at
  field_after at w = rw (wholly_after at w, bits_after at w)

  -- a field that is judged
  judged_after : (cut : Refusal) (w : ℕ) (judge : ℕ → Answer) (at : ℕ)
      → field cut w judge (front ++ s) (8 * length front + at) ≡ moved same (8 * length front) (field cut w judge s at)
  judged_after cut w judge at =
      rw (field_after at w, add_assoc (8 * length front) at w) (taken_moved cut judge (8 * length front) (at + w) (field_at s at w))

  -- the text of a label
  text_after : (size at : ℕ) → text size (front ++ s) (8 * length front + at) ≡ moved (span_after (length front)) (8 * length front) (text size s at)
  unfolding text
  text_after size at =
      let byte : (8 * length front + at) / 8 ≡ length front + at / 8 = omega arith in
      rw (wholly_after at (8 * size), byte, drop-append-add front s (at / 8), add_assoc (8 * length front) at (8 * size))
      (tested_moved (span_after (length front)) (8 * length front) (wholly s at (8 * size)) Refusal.Cut _ _
      (judged_moved (span_after (length front)) (8 * length front) (unless (printable (take size (drop (at / 8) s))) Refusal.Label)
      (record { from = at / 8; size = size }) (at + 8 * size)))

  -- a label
  pub label_after : (at : ℕ) → label (front ++ s) (8 * length front + at) ≡ moved (span_after (length front)) (8 * length front) (label s at)
  unfolding label
  label_after at =
      ap (λ (size : Got ℕ). onward size (λ n next. text n (front ++ s) next)) (judged_after Refusal.Cut 8 label_size at)
      ∙ onward_moved same (span_after (length front)) (8 * length front) (field Refusal.Cut 8 label_size s at)
      (λ n next. text n s next) (λ n next. text n (front ++ s) next) text_after

  -- as many labels
  pub labels_after : (count at : ℕ) → labels count (front ++ s) (8 * length front + at) ≡ moved same (8 * length front) (labels count s at)
  unfolding labels
  labels_after zero at = refl
  labels_after (suc count) at =
      ap (λ (span : Got Span). onward span (λ part next. labels count (front ++ s) next)) (label_after at)
      ∙ onward_moved (span_after (length front)) same (8 * length front) (label s at) (λ part next. labels count s next)
      (λ part next. labels count (front ++ s) next) (λ part next. labels_after count next)

  -- and nothing after them
  ended_after : (at : ℕ) → ended Refusal.LeftOver (front ++ s) (8 * length front + at) ≡ moved same (8 * length front) (ended Refusal.LeftOver s at)
  ended_after at =
      let end : eqb (8 * length front + at) (8 * length (front ++ s)) ≡ eqb at (8 * length s) =
      same_test (eqb (8 * length front + at) (8 * length (front ++ s))) (eqb at (8 * length s))
      (λ there. eq-eqb at (8 * length s) (omega (arith, eqb-true (8 * length front + at) (8 * length (front ++ s)) there, length-append front s)))
      (λ here. eq-eqb (8 * length front + at) (8 * length (front ++ s)) (omega (arith, eqb-true at (8 * length s) here, length-append front s))) in
      rw end (judged_moved same (8 * length front) (unless (eqb at (8 * length s)) Refusal.LeftOver) 0 at)

  -- labels from a bit on, and nothing after them
  block_after_lem : (count at : ℕ)
      → (labels count >>= λ n. ended Refusal.LeftOver) (front ++ s) (8 * length front + at)
      ≡ moved same (8 * length front) ((labels count >>= λ n. ended Refusal.LeftOver) s at)
  block_after_lem count at =
      ap (λ (n : Got ℕ). onward n (λ m next. ended Refusal.LeftOver (front ++ s) next)) (labels_after count at)
      ∙ onward_moved same same (8 * length front) (labels count s at) (λ m next. ended Refusal.LeftOver s next)
      (λ m next. ended Refusal.LeftOver (front ++ s) next) (λ m next. ended_after next)

  -- "For each alarm and property entry, in order: [a label]. Nothing follows."
  pub block_moved : (count : ℕ)
      → (labels count >>= λ n. ended Refusal.LeftOver) (front ++ s) (8 * length front)
      ≡ moved same (8 * length front) ((labels count >>= λ n. ended Refusal.LeftOver) s 0)
  block_moved count =
      ap (λ (at : ℕ). (labels count >>= λ n. ended Refusal.LeftOver) (front ++ s) at) (sym (add-zero (8 * length front))) ∙ block_after_lem count 0
