-- Lines as they are laid: piece by piece, and one after another.
use Rattle.std.specs.Prelude.{List, [], ◌∷◌, ◌≡◌, ℕ, ◌+◌}
use Rattle.std.proofs.Common.{subst, add-one}
use Rattle.values.specs.declared.Outcome.{Outcome}
use Rattle.refusals.specs.declared.Refusal.{Refusal}
use Rattle.refusals.specs.Numbering.{number_of}
use Rattle.lines.specs.Text.{decimal, line, refused_word}
use Rattle.lines.specs.Laying.{Lays, lays_none, lays_then}
use Rattle.lines.specs.Spaced.{lays_line, lays_field, lays_last}
use Rattle.stream.specs.Lines.{refused_line, result_line}
use Rattle.stream.specs.Replay.{row_lines}

-- a line of four fields, laid piece by piece
pub lays_four : {dst one two three four after : List ℕ} {at a b c d end : ℕ} (f g h i : List ℕ) → Lays dst at f one a → Lays one a (32 ∷ g) two b
    → Lays two b (32 ∷ h) three c → Lays three c (32 ∷ i) four d → Lays four d (10 ∷ []) after end → Lays dst at (line (f ∷ g ∷ h ∷ i ∷ [])) after end
lays_four f g h i first second third fourth feed =
    lays_line f (g ∷ h ∷ i ∷ []) first (lays_field g (h ∷ i ∷ []) second (lays_field h (i ∷ []) third (lays_last i fourth))) feed

-- before the first entry nothing is laid
pub lays_no_row : (dst : List ℕ) (at : ℕ) (label : ℕ → List ℕ) (time : ℕ) (result : ℕ → Outcome) → Lays dst at (row_lines label time result 0) dst at
unfolding row_lines
lays_no_row dst at label time result = lays_none dst at

-- one entry more
pub lays_next_result : {dst mid after : List ℕ} {at next end : ℕ} {text : List ℕ} (label : ℕ → List ℕ) (time : ℕ) (result : ℕ → Outcome) (k : ℕ)
    → Lays dst at (row_lines label time result k) mid next → text ≡ label k → Lays mid next (result_line time k text (result k)) after end
    → Lays dst at (row_lines label time result (k + 1)) after end
unfolding row_lines
lays_next_result {mid = mid} {after} {next = next} {end} label time result k some is one =
    rw (add-one k) (lays_then some (subst (λ (x : List ℕ). Lays mid next (result_line time k x (result k)) after end) is one))

-- "refused" and its number, by the refusal's number
pub lays_refused_number : {dst after : List ℕ} {at next n : ℕ} (r : Refusal) → n ≡ number_of r → Lays dst at (line (refused_word ∷ decimal n ∷ [])) after next
    → Lays dst at (refused_line r) after next
unfolding refused_line
lays_refused_number {dst} {after} {at} {next} r is lays = subst (λ (m : ℕ). Lays dst at (line (refused_word ∷ decimal m ∷ [])) after next) is lays
