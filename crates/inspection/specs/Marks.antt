-- The numbers of the marks that are set, each with a space before it.
use Rattle.std.specs.Prelude.{Bool, true, false, List, [], ◌∷◌, ◌++◌, map, ◌≡◌, ℕ, suc, ◌+◌, ◌<◌, ◌≤◌, length, get_or, take}
use Rattle.std.proofs.lemmas.List.{map-append}
use Rattle.std.proofs.Common.{sym, ◌∙◌, ap, subst, add-zero, add-one, arith, take-suc, take_all, length-take-le}
use Rattle.lines.specs.Text.{decimal}
use Rattle.lines.specs.Laying.{Lays, lays_none}
use Rattle.lines.specs.Spaced.{spaced, lays_fields, lays_last}
use Rattle.inspection.specs.Inspected.{marked_from}

-- the numbers as they stand in a line, where the first mark has this number
abbrev pub marks_text : ℕ → List Bool → List ℕ
marks_text i marks = spaced (map decimal (marked_from i marks))

-- some marks, and then some more
marked_more : (i : ℕ) (some more : List Bool) → marked_from i (some ++ more) ≡ marked_from i some ++ marked_from (i + length some) more
unfolding marked_from
marked_more i [] more = ap (λ (j : ℕ). marked_from j more) (sym (add-zero i))
marked_more i (true ∷ some) more = ap (λ (l : List ℕ). i ∷ l) (marked_more (suc i) some more ∙ ap (λ (j : ℕ). marked_from (suc i) some ++ marked_from j more) (omega arith))
marked_more i (false ∷ some) more = marked_more (suc i) some more ∙ ap (λ (j : ℕ). marked_from (suc i) some ++ marked_from j more) (omega arith)

-- one mark more
marked_next : (marks : List Bool) (i : ℕ) → i < length marks
    → marked_from 0 (take (i + 1) marks) ≡ marked_from 0 (take i marks) ++ marked_from i (get_or marks i false ∷ [])
marked_next marks i there =
    ap (λ (n : ℕ). marked_from 0 (take n marks)) (add-one i)
    ∙ ap (marked_from 0) (take-suc marks i false there)
    ∙ marked_more 0 (take i marks) (get_or marks i false ∷ [])
    ∙ ap (λ (j : ℕ). marked_from 0 (take i marks) ++ marked_from j (get_or marks i false ∷ [])) (omega (arith, length-take-le i marks (omega arith)))

-- before the first mark nothing is laid
pub lays_no_marks : (dst : List ℕ) (at : ℕ) (marks : List Bool) → Lays dst at (marks_text 0 (take 0 marks)) dst at
unfolding spaced marked_from
lays_no_marks dst at marks = lays_none dst at

-- a mark that is set
pub lays_marked : {dst after : List ℕ} {at next : ℕ} (i : ℕ) → Lays dst at (32 ∷ decimal i) after next → Lays dst at (marks_text i (true ∷ [])) after next
unfolding marked_from
lays_marked i lays = lays_last (decimal i) lays

-- and one that is not
pub lays_unmarked : {dst : List ℕ} {at : ℕ} (i : ℕ) → Lays dst at (marks_text i (false ∷ [])) dst at
unfolding spaced marked_from
lays_unmarked {dst} {at} i = lays_none dst at

-- one mark more
pub lays_next_mark : {dst mid after : List ℕ} {at next end : ℕ} (marks : List Bool) (i : ℕ) → Lays dst at (marks_text 0 (take i marks)) mid next
    → Lays mid next (marks_text i (get_or marks i false ∷ [])) after end → i < length marks → Lays dst at (marks_text 0 (take (i + 1) marks)) after end
lays_next_mark marks i some one there =
    rw (marked_next marks i there, map-append decimal) (lays_fields (map decimal (marked_from 0 (take i marks))) (map decimal (marked_from i (get_or marks i false ∷ []))) some one)

-- all of them
pub lays_all_marks : {dst after : List ℕ} {at next : ℕ} (marks : List Bool) (i : ℕ) → Lays dst at (marks_text 0 (take i marks)) after next → length marks ≤ i
    → Lays dst at (marks_text 0 marks) after next
lays_all_marks {dst} {after} {at} {next} marks i some all = subst (λ (l : List Bool). Lays dst at (marks_text 0 l) after next) (take_all i marks all) some
