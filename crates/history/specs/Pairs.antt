-- Laws of the pair: it is what document 01's words say, and it follows from the step before.
use Rattle.std.specs.Prelude.{Bool, true, false, not, ◌&&◌, ◌||◌, List, ◌∷◌, ◌↔◌, ◌≡◌, refl, ℕ, suc, ◌≤◌, ◌<◌, T, length}
use Rattle.std.proofs.Common.{◌∙◌, ap, arith}
use Rattle.std.proofs.Math.Path.{fun_ext}
use Rattle.values.specs.Outcomes.{event_in}
use Rattle.table.specs.Below.{some_below, none_below, both_parts, both_joined, some_found, some_here, none_there, none_here, some_front, none_front, some_needs}
use Rattle.history.specs.History.{Moment, row_at, occurred, pair_holds}

-- the words: "the first event occurred at some step j ≤ i and the second at no step from j to i, both ends counted"
abbrev pub PairInWords : List Moment → ℕ → ℕ → Type 0
PairInWords moments first second =
    (j : ℕ) × (j < length moments) × T (occurred moments first j) × ((m : ℕ) → m ≤ j → T (occurred moments second m) → ⊥)

-- the pair is true exactly if the words hold
pub pair_in_words : (moments : List Moment) (first second : ℕ) → T (pair_holds moments first second) ↔ PairInWords moments first second
unfolding pair_holds
pair_in_words moments first second = (read, written)
  where
    closes : ℕ → Bool
    closes m = occurred moments second m

    read : T (some_below (length moments) (λ j. occurred moments first j && none_below (suc j) closes)) → PairInWords moments first second
    read t =
        let f = some_found (length moments) (λ j. occurred moments first j && none_below (suc j) closes) t in
        let parts = both_parts (occurred moments first f.0) (none_below (suc f.0) closes) f.2 in
        (f.0, f.1, parts.0, λ m h. none_there (suc f.0) closes parts.1 m (omega arith))

    written : PairInWords moments first second → T (some_below (length moments) (λ j. occurred moments first j && none_below (suc j) closes))
    written w =
        some_here (length moments) (λ j. occurred moments first j && none_below (suc j) closes) w.0 w.1
        (both_joined (occurred moments first w.0) (none_below (suc w.0) closes) w.2 (none_here (suc w.0) closes (λ m h. w.3 m (omega arith))))

regroup : (a b s : Bool) → ((a && (b && true)) || (b && s)) ≡ ((s || a) && b)
regroup true true true = refl
regroup true true false = refl
regroup true false true = refl
regroup true false false = refl
regroup false true true = refl
regroup false true false = refl
regroup false false true = refl
regroup false false false = refl

-- a pair that was open, or is opened now, and is not closed now
pub pair_next : (m : Moment) (ms : List Moment) (first second : ℕ)
    → pair_holds (m ∷ ms) first second ≡ ((pair_holds ms first second || event_in (row_at m.row first)) && not (event_in (row_at m.row second)))
unfolding pair_holds none_below
pair_next m ms first second =
    some_front (length ms) (λ j. occurred (m ∷ ms) first j && none_below (suc j) closes)
    ∙ ap (λ b. (opens && b) || some_below (length ms) (λ j. occurred ms first j && none_below (suc (suc j)) closes)) (none_front 0 closes)
    ∙ ap (λ p. (opens && (closed && true)) || some_below (length ms) p) (fun_ext (λ j. ap (λ b. occurred ms first j && b) (none_front (suc j) closes)))
    ∙ ap (λ b. (opens && (closed && true)) || b) (some_needs (length ms) closed (λ j. occurred ms first j) (λ j. none_below (suc j) (λ i. occurred ms second i)))
    ∙ regroup opens closed (pair_holds ms first second)
  where
    closes : ℕ → Bool
    closes i = occurred (m ∷ ms) second i

    opens : Bool
    opens = event_in (row_at m.row first)

    closed : Bool
    closed = not (event_in (row_at m.row second))
