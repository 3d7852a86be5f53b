-- Labels passed one after another: what is known once some of them are read, and the answer at the end.
use Rattle.std.specs.Prelude.{List, ◌≡◌, refl, ℕ, suc, ◌+◌, ◌-◌, ◌*◌, ◌<◌, ◌≤◌, length, Ok}
use Rattle.std.proofs.Math.Logic.{by_cases}
use Rattle.std.proofs.Common.{sym, ◌∙◌, ap, arith}
use Rattle.std.proofs.Math.Decide.{dec_lt}
use Rattle.std.proofs.Math.Nat.{sub-zero}
use borrow.Author.Tests.{lt-ltb, le-ltb, eq-eqb, ne_eqb}
use Rattle.refusals.specs.declared.Refusal.{Refusal}
use Rattle.bits.specs.Reading.{got, refused}
use Rattle.script.specs.declared.Span.{Span}
use Rattle.script.specs.declared.Label.{Label}
use Rattle.script.specs.Labels.{label, labels}
use Rattle.script.specs.Reader.{no_label}
use Rattle.labels.specs.Among.{nowhere, span_of, labels_to_end, label_after, label_among}

-- j of the labels from byte `from` on are read, the next one begins at byte `at`, and `span` is kept
pub record Passed (s : List ℕ) (from count wanted at : ℕ) (span : Span) (j : ℕ) : Type 0 where
  pub some : j ≤ count
  -- the rest decides
  pub rest : labels_to_end count s (8 * from) ≡ labels_to_end (count - j) s (8 * at)
  -- the wanted label is still to come
  pub before : j ≤ wanted → (span ≡ nowhere) × (label_after wanted s (8 * from) ≡ label_after (wanted - j) s (8 * at))
  -- the wanted label was read
  pub after : wanted < j → span ≡ span_of (label_after wanted s (8 * from))

-- the answer of labels that are as they should be
abbrev pub accepted : Span → Label
accepted span = record { answer = Ok tt; span = span }

-- a label, and then the others
labels_next : (s : List ℕ) (at n k next : ℕ) (span : Span) → n ≡ suc k → label s at ≡ got span next → labels_to_end n s at ≡ labels_to_end k s next
unfolding labels_to_end labels
labels_next s at n k next span e here = rw (e, here)

-- a label that is refused
labels_refused : (s : List ℕ) (at n k : ℕ) (r : Refusal) → n ≡ suc k → label s at ≡ refused r → labels_to_end n s at ≡ refused r
unfolding labels_to_end labels
labels_refused s at n k r e here = rw (e, here)

-- no label is left, and bytes follow
labels_left_over : (s : List ℕ) (at n : ℕ) → n ≡ 0 → (at ≡ length s → ⊥) → labels_to_end n s (8 * at) ≡ refused Refusal.LeftOver
unfolding labels_to_end labels
labels_left_over s at n e more = rw (e, ne_eqb (8 * at) (8 * length s) (λ same. more (omega arith)))

-- no label is left, and nothing follows
labels_end : (s : List ℕ) (at n : ℕ) → n ≡ 0 → at ≡ length s → labels_to_end n s (8 * at) ≡ got 0 (8 * at)
unfolding labels_to_end labels
labels_end s at n e end = rw (e, eq-eqb (8 * at) (8 * length s) (omega arith))

-- the label after one more than as many
after_next : (s : List ℕ) (at n k next : ℕ) (span : Span) → n ≡ suc k → label s at ≡ got span next → label_after n s at ≡ label_after k s next
unfolding label_after labels
after_next s at n k next span e here = rw (e, here)

-- the label after none
after_none : (s : List ℕ) (at n : ℕ) → n ≡ 0 → label_after n s at ≡ label s at
unfolding label_after labels
after_none s at n e = rw e

-- none is read yet
pub passed_none : (s : List ℕ) (from count wanted : ℕ) → Passed s from count wanted from nowhere 0
passed_none s from count wanted =
    record { some = omega arith; rest = simp sub-zero; before = λ h. (refl, simp sub-zero); after = λ h. absurd (omega arith) }

module _ {s : List ℕ} {from count wanted at : ℕ} {span : Span} {j : ℕ} (passed : Passed s from count wanted at span j) where
  rest_next : (next : ℕ) {here : Span} → j < count → label s (8 * at) ≡ got here (8 * next)
      → labels_to_end count s (8 * from) ≡ labels_to_end (count - (j + 1)) s (8 * next)
  rest_next next h e = passed.rest ∙ labels_next s (8 * at) (count - j) (count - (j + 1)) (8 * next) _ (omega arith) e

  -- the wanted label is read
  pub passed_wanted : {next : ℕ} {here : Span} → j < count → label s (8 * at) ≡ got here (8 * next) → j ≡ wanted
      → Passed s from count wanted next here (j + 1)
  passed_wanted {next} h e same =
      record {
        some = omega arith;
        rest = rest_next next h e;
        before = λ w. absurd (omega arith);
        after = λ w. sym (ap span_of ((passed.before (omega arith)).1 ∙ after_none s (8 * at) (wanted - j) (omega arith) ∙ e));
      }

  -- another is read
  pub passed_other : {next : ℕ} {here : Span} → j < count → label s (8 * at) ≡ got here (8 * next) → (j ≡ wanted → ⊥)
      → Passed s from count wanted next span (j + 1)
  passed_other {next} h e other =
      record {
        some = omega arith;
        rest = rest_next next h e;
        before = λ w. (
          (passed.before (omega arith)).0,
          (passed.before (omega arith)).1 ∙ after_next s (8 * at) (wanted - j) (wanted - (j + 1)) (8 * next) _ (omega arith) e,
        );
        after = λ w. passed.after (omega arith);
      }

  -- the next one is refused
  pub passed_refused : {r : Refusal} → j < count → label s (8 * at) ≡ refused r → label_among count wanted s (8 * from) ≡ no_label r
  unfolding label_among
  passed_refused h e = rw (passed.rest ∙ labels_refused s (8 * at) (count - j) (count - (j + 1)) _ (omega arith) e)

  -- all are read, and bytes follow
  pub passed_left_over : count ≤ j → (at ≡ length s → ⊥) → label_among count wanted s (8 * from) ≡ no_label Refusal.LeftOver
  unfolding label_among
  passed_left_over h more = rw (passed.rest ∙ labels_left_over s at (count - j) (omega arith) more)

  -- all are read, and nothing follows
  pub passed_all : count ≤ j → at ≡ length s → label_among count wanted s (8 * from) ≡ accepted span
  unfolding label_among
  passed_all h end =
      let done : labels_to_end count s (8 * from) ≡ got 0 (8 * at) = passed.rest ∙ labels_end s at (count - j) (omega arith) end in
      by_cases (dec_lt wanted count)
      (λ among. rw (done, lt-ltb wanted count among) (ap accepted (sym (passed.after (omega arith)))))
      (λ none. rw (done, le-ltb wanted count (omega arith)) (ap accepted (sym (passed.before (omega arith)).0)))
