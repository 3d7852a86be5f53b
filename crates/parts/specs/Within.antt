-- Labels and their block stand within the script.
use Rattle.std.specs.Prelude.{Bool, true, false, cond, ◌&&◌, List, ◌≡◌, refl, ℕ, ◌+◌, ◌-◌, ◌*◌, ◌/◌, ◌≤◌, leb, ltb, length, take, drop, Ok, Err}
use Rattle.std.proofs.Common.{sym, ◌∙◌, ap, subst, add_comm, arith, leb-true, length-take, length-drop, take_all}
use Rattle.refusals.specs.declared.Refusal.{Refusal}
use Rattle.refusals.specs.Answers.{Answer}
use Rattle.refusals.specs.Numbering.{unless}
use Rattle.refusals.specs.Accepting.{unless_accepted}
use Rattle.bits.specs.Bits.{wholly}
use Rattle.bits.specs.Reading.{Got, got, refused, judged}
use Rattle.table.specs.declared.Table.{Table}
use Rattle.table.specs.Limits.{limits}
use Rattle.table.specs.Kinds.{labelled}
use Rattle.table.specs.Tables.{entry_at, labels_before}
use Rattle.script.specs.declared.Span.{Span}
use Rattle.script.specs.declared.Label.{Label}
use Rattle.script.specs.Labels.{printable, text, label, labels}
use Rattle.script.specs.Reader.{packed_table, script_of, no_label, label_span, label_reply, label_in, label_of, text_of, block_after, block_in, block_of}
use Rattle.bits.specs.Giving.{Gives, gives_value, gives_refused, gives_onward, gives_field}
use Rattle.reader.specs.Scans.{span_after, span_in, block_span}
use Rattle.reader.specs.ScanLaws.{block_begins}

-- a part of the bytes
abbrev pub Inside : List ℕ → Span → Type 0
Inside s span = span.from + span.size ≤ length s

-- a value that is judged
gives_judged : {A : Type 0} (answer : Answer) (a : A) (next : ℕ) {P : A → ℕ → Type 0} → P a next → Gives (judged answer a next) P
gives_judged (Ok _) a next p = gives_value p
gives_judged (Err r) a next p = gives_refused

-- a text that is wholly there
text_there : (size at : ℕ) (whole : Bool) (answer : Answer) {P : Span → Type 0} → (whole ≡ true → P (record { from = at / 8; size = size }))
    → Gives (cond whole (judged answer (record { from = at / 8; size = size }) (at + 8 * size)) (refused Refusal.Cut)) (λ span next. P span)
text_there size at true answer there = gives_judged answer _ _ (there refl)
text_there size at false answer there = gives_refused

-- "a length byte 0 to 32, then that many bytes": the bytes are there
label_inside : (s : List ℕ) (at : ℕ) → Gives (label s at) (λ span next. Inside s span)
unfolding label text
label_inside s at =
    gives_field s at 8 _ _ _
    (λ size there good.
    text_there size (at + 8) (wholly s (at + 8) (8 * size)) (unless (printable (take size (drop ((at + 8) / 8) s))) Refusal.Label)
    (λ whole. omega (arith, leb-true (at + 8 + 8 * size) (8 * length s) whole)))

-- and there are at most 32 of them
label_short : (s : List ℕ) (at : ℕ) → Gives (label s at) (λ span next. span.size ≤ limits.label)
unfolding label text
label_short s at =
    gives_field s at 8 _ _ _
    (λ size there good.
    text_there size (at + 8) (wholly s (at + 8) (8 * size)) (unless (printable (take size (drop ((at + 8) / 8) s))) Refusal.Label)
    (λ whole. leb-true size limits.label (unless_accepted (leb size limits.label) Refusal.Label good)))

-- what holds of the empty part and of every label that is read
module _ (s : List ℕ) (P : Span → Type 0) (empty : P (record { from = 0; size = 0 })) (each : (at : ℕ) → Gives (label s at) (λ span next. P span)) where
  span_has : (k : ℕ) → Gives (label_span k s 0) (λ span next. P span)
  unfolding label_span
  span_has k = gives_onward {m = packed_table s 0} (λ t at read. gives_onward {m = labels (labels_before t k) s at} (λ count next others. each next))

  reply_has : (m : Got Span) → Gives m (λ span next. P span) → P (label_reply m).span
  reply_has (got span next) has = has.told span next refl
  reply_has (refused r) has = empty

  shown_has : (named : Bool) (l : Label) → P l.span → P (cond named l (no_label Refusal.NoEntry)).span
  shown_has true l has = has
  shown_has false l has = empty

  in_has : (k : ℕ) (m : Got Table) → P (label_in s k m).span
  in_has k (got t end) = shown_has (ltb k t.n && labelled (entry_at t k)) (label_reply (label_span k s 0)) (reply_has (label_span k s 0) (span_has k))
  in_has k (refused r) = empty

  -- holds of the label of any entry
  label_has : (k : ℕ) → P (label_of s k).span
  unfolding label_of
  label_has k = in_has k (script_of s)

-- the label of an entry stands within the bytes
pub label_of_inside : (s : List ℕ) (k : ℕ) → Inside s (label_of s k).span
label_of_inside s k = label_has s (Inside s) (omega arith) (label_inside s) k

-- and is at most 32 bytes long
pub label_of_short : (s : List ℕ) (k : ℕ) → (label_of s k).span.size ≤ limits.label
label_of_short s k = label_has s (λ span. span.size ≤ limits.label) (omega arith) (label_short s) k

-- so a label's text is: "a label at most 32 bytes"
pub label_text_short : (s : List ℕ) (k : ℕ) → length (text_of s (label_of s k)) ≤ limits.label
label_text_short s k =
    let span = (label_of s k).span in
    omega (arith, length-take span.size (drop span.from s), label_of_short s k)

-- the block stands within the bytes too
after_inside : (s : List ℕ) (m : Got Table) → packed_table s 0 ≡ m → Inside s (span_after s m)
after_inside s (got t at) there = omega (arith, (block_begins s t at there).0, (block_begins s t at there).1)
after_inside s (refused r) there = omega arith

block_in_inside : (s : List ℕ) (m : Got Table) → Inside s (span_in s m)
block_in_inside s (got t end) = after_inside s (packed_table s 0) refl
block_in_inside s (refused r) = omega arith

pub block_inside : (s : List ℕ) → Inside s (block_span s)
unfolding block_span
block_inside s = block_in_inside s (script_of s)

-- the part where the block stands holds the block
after_text : (s : List ℕ) (m : Got Table) → take (span_after s m).size (drop (span_after s m).from s) ≡ block_after s m
after_text s (got t at) = take_all (length s - at / 8) (drop (at / 8) s) (omega (arith, length-drop (at / 8) s))
after_text s (refused r) = refl

in_text : (s : List ℕ) (m : Got Table) → take (span_in s m).size (drop (span_in s m).from s) ≡ block_in s m
in_text s (got t end) = after_text s (packed_table s 0)
in_text s (refused r) = refl

pub block_text : (s : List ℕ) → take (block_span s).size (drop (block_span s).from s) ≡ block_of s
unfolding block_span block_of
block_text s = in_text s (script_of s)

-- the bytes from a place up to another one
pub part_of : (s : List ℕ) (from size : ℕ) → take (from + size - from) (drop from s) ≡ take size (drop from s)
part_of s from size = ap (λ (n : ℕ). take n (drop from s)) {x = from + size - from} {y = size} (omega arith)

-- a part that was found is the part that the definition names: it stands within the bytes, holds the text, and stands at its place
module _ (s : List ℕ) {x y : Span} (is : x ≡ y) where
  pub part_inside : Inside s y → Inside s x
  part_inside inside = subst (Inside s) (sym is) inside

  pub part_text : take (x.from + x.size - x.from) (drop x.from s) ≡ take y.size (drop y.from s)
  part_text = part_of s x.from x.size ∙ ap (λ (z : Span). take z.size (drop z.from s)) is

  pub part_place : (start : ℕ) → x.from + start ≡ start + y.from
  part_place start = add_comm x.from start ∙ ap (λ (z : Span). start + z.from) is
