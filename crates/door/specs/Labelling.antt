-- nimbra_label and nimbra_labels: where a label, or the block of labels, stands in a script.
use Rattle.std.specs.Prelude.{List, [], ◌∷◌, ◌≡◌, refl, ℕ, eqb, length, set, Ok, Err}
use Rattle.std.proofs.Common.{sym, ap, arith, eq-eqb, ne_eqb}
use Rattle.refusals.specs.declared.Refusal.{Refusal}
use Rattle.refusals.specs.Answers.{Answer}
use Rattle.refusals.specs.Numbering.{number_of}
use Rattle.script.specs.declared.Span.{Span}
use Rattle.script.specs.declared.Label.{Label}
use Rattle.script.specs.Reader.{read_script, label_of}
use Rattle.reader.specs.declared.Scan.{Scan}
use Rattle.reader.specs.Scans.{block_span, scan_of}
use Rattle.door.specs.Leaving.{Left, if_size, Leaves, leaves_same, right_size, wrong_size_lem}

-- 0, the first byte and the length of a part; or a number, and the place as it was
abbrev pub place_left : Answer → Span → List ℕ → Left
place_left (Ok _) span place = record { reply = 0; buffer = span.from ∷ span.size ∷ [] }
place_left (Err r) span place = record { reply = number_of r; buffer = place }

-- what nimbra_label answers, and the place that it leaves
unfoldable pub label_door : List ℕ → ℕ → List ℕ → Left
label_door script entry place = if_size (eqb (length place) 2) place (place_left (label_of script entry).answer (label_of script entry).span place)

-- what nimbra_labels answers, and the place that it leaves
unfoldable pub labels_door : List ℕ → List ℕ → Left
labels_door script place = if_size (eqb (length place) 2) place (place_left (read_script script).answer (block_span script) place)

-- two words stored
pub two_stored : (place : List ℕ) (a b : ℕ) → length place ≡ 2 → set (set place 0 a) 1 b ≡ a ∷ b ∷ []
two_stored [] a b two = absurd (omega arith)
two_stored (x ∷ []) a b two = absurd (omega arith)
two_stored (x ∷ y ∷ []) a b two = refl
two_stored (x ∷ y ∷ z ∷ rest) a b two = absurd (omega arith)

module _ (answer : Answer) (span : Span) (place : List ℕ) where
  -- a part that is refused
  pub place_refused : {r : Refusal} {n : ℕ} → answer ≡ Err r → n ≡ number_of r → Leaves (place_left answer span place) n place
  place_refused bad number = leaves_same (record { reply = number; buffer = refl }) (ap (λ (a : Answer). place_left a span place) (sym bad))

  -- one that is shown
  pub place_shown : length place ≡ 2 → answer ≡ Ok tt → Leaves (place_left answer span place) 0 (set (set place 0 span.from) 1 span.size)
  place_shown two good =
      leaves_same {left = place_left (Ok tt) span place} (record { reply = refl; buffer = two_stored place span.from span.size two })
      (ap (λ (a : Answer). place_left a span place) (sym good))

module _ (script place : List ℕ) where
  -- there are not two words for the place of a label
  pub label_size_lem : (entry : ℕ) → (length place ≡ 2 → ⊥) → Leaves (label_door script entry place) 90 place
  unfolding label_door
  label_size_lem entry other = wrong_size_lem place _ (ne_eqb (length place) 2 other)

  -- nor for that of the block
  pub labels_size : (length place ≡ 2 → ⊥) → Leaves (labels_door script place) 90 place
  unfolding labels_door
  labels_size other = wrong_size_lem place _ (ne_eqb (length place) 2 other)

  module _ (two : length place ≡ 2) {n : ℕ} {later : List ℕ} where
    -- the label of an entry
    pub label_shown : (entry : ℕ) {label : Label} → label ≡ label_of script entry → Leaves (place_left label.answer label.span place) n later
        → Leaves (label_door script entry place) n later
    unfolding label_door
    label_shown entry is so =
        right_size place (eq-eqb (length place) 2 two) (leaves_same so (ap (λ (l : Label). place_left l.answer l.span place) is))

    -- the block of labels
    pub labels_shown : {scan : Scan} → scan ≡ scan_of script 0 → Leaves (place_left scan.answer scan.block place) n later
        → Leaves (labels_door script place) n later
    unfolding labels_door scan_of
    labels_shown is so =
        right_size place (eq-eqb (length place) 2 two) (leaves_same so (ap (λ (x : Scan). place_left x.answer x.block place) is))
