-- Laws of one label: what each fault leads to, and where the text and the next label stand.
use Rattle.std.specs.Prelude.{Bool, true, false, ◌&&◌, List, [], ◌∷◌, ◌≡◌, refl, ℕ, ◌+◌, ◌*◌, ◌/◌, ◌<◌, ◌≤◌, leb, take, drop, Ok, Err, Some, None, Option, Result}
use Rattle.std.specs.List.{list_all}
use Rattle.std.proofs.Math.Logic.{by_cases}
use Rattle.std.proofs.Common.{◌∙◌, ap, le-leb}
use Rattle.std.proofs.Math.Decide.{dec_le}
use native.Mathlib.Omega.{arith}
use Rattle.std.proofs.lemmas.Bool.{lt-leb}
use Rattle.std.proofs.Math.ListN.{length}
use Rattle.refusals.specs.declared.Refusal.{Refusal}
use Rattle.bits.specs.Bits.{field_at}
use Rattle.bits.specs.Fields.{there_ends}
use Rattle.bits.specs.Reading.{Got, got, refused}
use Rattle.table.specs.Limits.{limits}
use Rattle.script.specs.declared.Span.{Span}
use Rattle.script.specs.Labels.{printable, text, label}

-- a byte of a text
abbrev pub is_printable : ℕ → Bool
is_printable b = leb 0x20 b && leb b 0x7E

-- a text's bytes are tested one by one
pub printable_lem : (s : List ℕ) → printable s ≡ list_all is_printable s
unfolding printable
printable_lem [] = refl
printable_lem (b ∷ bs) = ap (λ (rest : Bool). leb 0x20 b && leb b 0x7E && rest) (printable_lem bs)

-- the length isn't there
pub label_cut : (s : List ℕ) (at : ℕ) → field_at s at 8 ≡ None → label s at ≡ refused Refusal.Cut
unfolding label
label_cut s at e = rw e

-- a length that is there is one of the bytes
pub length_within : (s : List ℕ) (from size : ℕ) → field_at s (8 * from) 8 ≡ Some size → from < length s
length_within s from size e = omega (arith, there_ends s (8 * from) 8 size e)

-- "label over 32"
pub label_long : (s : List ℕ) (at size : ℕ) → field_at s at 8 ≡ Some size → limits.label < size → label s at ≡ refused Refusal.Label
unfolding label
label_long s at size e h = rw (e, lt-leb size limits.label h)

-- the text stands after the length
pub label_text_lem : (s : List ℕ) (from size : ℕ) → field_at s (8 * from) 8 ≡ Some size → size ≤ limits.label
    → label s (8 * from) ≡ text size s (8 * (from + 1))
unfolding label
label_text_lem s from size e h =
    rw (e, le-leb size limits.label h) (ap (λ (at : ℕ). text size s at) (omega arith))

module _ (s : List ℕ) (first size : ℕ) where
  -- the text isn't wholly there
  pub text_cut : length s < first + size → text size s (8 * first) ≡ refused Refusal.Cut
  unfolding text
  text_cut h = rw (lt-leb (8 * first + 8 * size) (8 * length s) (omega arith))

  -- "a byte outside 0x20 to 0x7E"
  pub text_fault : first + size ≤ length s → printable (take size (drop first s)) ≡ false → text size s (8 * first) ≡ refused Refusal.Label
  unfolding text
  text_fault room e =
      let here : 8 * first / 8 ≡ first = omega arith in
      rw (le-leb (8 * first + 8 * size) (8 * length s) (omega arith), here, e)

  -- the text; the next label stands after it
  pub text_found : first + size ≤ length s → printable (take size (drop first s)) ≡ true
      → text size s (8 * first) ≡ got (record { from = first; size = size }) (8 * (first + size))
  unfolding text
  text_found room e =
      let here : 8 * first / 8 ≡ first = omega arith in
      let next : 8 * first + 8 * size ≡ 8 * (first + size) = omega arith in
      rw (le-leb (8 * first + 8 * size) (8 * length s) (omega arith), here, e, next)

-- what reading one label finds
abbrev pub found_in : Got Span → Result Span Refusal
found_in (got span next) = Ok span
found_in (refused r) = Err r

-- a label's text ends within the bytes, and the next label begins there
abbrev pub EndsIn : List ℕ → Got Span → Type 0
EndsIn s (got span next) = (next ≡ 8 * (span.from + span.size)) × (span.from + span.size ≤ length s)
EndsIn s (refused r) = Unit

text_ends : (s : List ℕ) (first size : ℕ) (b : Bool) → printable (take size (drop first s)) ≡ b → EndsIn s (text size s (8 * first))
text_ends s first size true e =
    by_cases (dec_le (first + size) (length s)) (λ room. rw (text_found s first size room e) (refl, room))
    (λ short. rw (text_cut s first size (omega arith)) tt)
text_ends s first size false e =
    by_cases (dec_le (first + size) (length s)) (λ room. rw (text_fault s first size room e) tt)
    (λ short. rw (text_cut s first size (omega arith)) tt)

label_ends_by : (s : List ℕ) (from : ℕ) (f : Option ℕ) → field_at s (8 * from) 8 ≡ f → EndsIn s (label s (8 * from))
label_ends_by s from None e = rw (label_cut s (8 * from) e) tt
label_ends_by s from (Some size) e =
    by_cases (dec_le size limits.label) (λ fits. rw (label_text_lem s from size e fits) (text_ends s (from + 1) size _ refl))
    (λ long. rw (label_long s (8 * from) size e (omega arith)) tt)

-- so does every label
label_ends : (s : List ℕ) (from : ℕ) → EndsIn s (label s (8 * from))
label_ends s from = label_ends_by s from _ refl

refused_found : (g : Got Span) (r : Refusal) → found_in g ≡ Err r → g ≡ refused r
refused_found (got span next) r e = let z : ◌≡◌ {A = ℕ} 0 1 = cc in absurd (omega arith)
refused_found (refused q) r e = cc

text_found_in : (s : List ℕ) (g : Got Span) (span : Span) → EndsIn s g → found_in g ≡ Ok span
    → (g ≡ got span (8 * (span.from + span.size))) × (span.from + span.size ≤ length s)
text_found_in s (got here next) span ends e =
    let same : here ≡ span = cc in
    (ap (got here) ends.0 ∙ ap (λ (x : Span). got x (8 * (x.from + x.size))) same, rw same at ends.1)
text_found_in s (refused r) span ends e = let z : ◌≡◌ {A = ℕ} 0 1 = cc in absurd (omega arith)

-- the refusal that was found
pub found_refused : (s : List ℕ) (from : ℕ) (r : Refusal) → found_in (label s (8 * from)) ≡ Err r → label s (8 * from) ≡ refused r
found_refused s from r e = refused_found (label s (8 * from)) r e

-- the text that was found
pub found_at : (s : List ℕ) (from : ℕ) (span : Span) → found_in (label s (8 * from)) ≡ Ok span
    → (label s (8 * from) ≡ got span (8 * (span.from + span.size))) × (span.from + span.size ≤ length s)
found_at s from span e = text_found_in s (label s (8 * from)) span (label_ends s from) e
