-- Two histories that agree on what a rule reaches give it the same results.
use Rattle.std.specs.Prelude.{true, ◌≡◌, refl, T}
use mathlib.Core.List.{List, [], ◌∷◌, map}
use Rattle.std.proofs.Math.Option.{Option, some}
use Rattle.std.proofs.Math.Path.{sym, ap, fun_ext}
use Rattle.std.proofs.Common.{◌∙◌, subst, arith, Ok}
use Prim.Native.Nat.{ℕ, zero, suc, ◌<◌, ◌≤◌}
use Rattle.std.proofs.Math.IntN.{pos}
use Rattle.values.specs.Truths.{is_true, is_false}
use Rattle.values.specs.declared.Outcome.{Outcome}
use Rattle.table.specs.declared.Table.{Table}
use Rattle.table.specs.Kinds.{Change, operands_of, update_of}
use Rattle.table.specs.Tables.{entry_at}
use Rattle.table.specs.Below.{both_joined, some_here}
use Rattle.table.specs.Faults.{table_fault}
use Rattle.table.specs.Sound.{Sound, sound_table}
use Rattle.step.specs.Steps.{Step}
use Rattle.meaning.specs.Places.{places_of}
use Rattle.history.specs.History.{History, Moment, Row, row_at, steps_of, givens_at, judge, row_to, moments_by, result_by, result_at}
use Rattle.history.specs.Rows.{row_holds}
use Rattle.reach.specs.declared.Reach.{Reach}
use Rattle.reach.specs.Reaching.{Entries, Closed, Shows, is_operand, is_read, names_import, reads_clock, leads_to, reaches_import, reaches_clock, marked_in, leads_to_operands, reads_every_update}
use Rattle.reach.specs.Naming.{operand_earlier}
use Rattle.agreement.specs.Agreeing.{Touching, StepsAgree, Agree, touching_in, touching_by, results_of_rule}
use Rattle.agreement.specs.Looking.{SameSeen, looks_nowhere_else, gives_operand, gives_operand_lem}
use Rattle.agreement.specs.Touched.{Among, SameTo, Alike, nothing, one_more, Feeds, alike_to, reported_same, pair_same, condition_same, latest_same, held_same}

module _ (t : Table) (sound : Sound t) (S : Entries) (closed : Closed (leads_to t) t.n S) where
  -- what an entry of the set looks at is in the set, or touches it: its operand entries, which stand before it
  operand_among : (k : ℕ) → Among S t.n k → (o : ℕ) → is_operand (operands_of (entry_at t k)) o ≡ true → Among S k o
  operand_among k here o is =
      let earlier = operand_earlier t k (operands_of (entry_at t k)) (sound.operands k here.0) o (rw is tt) in
      (earlier, closed k o here.0 (omega (arith, here.0)) here.1 (rw (leads_to_operands t k o is) tt))

  -- its import
  import_touches : (k : ℕ) → Among S t.n k → (i : ℕ) → names_import (operands_of (entry_at t k)) i ≡ true → T (reaches_import t S i)
  unfolding reaches_import
  import_touches k here i is = some_here t.n _ k here.0 (both_joined (S k) _ here.1 (rw is tt))

  -- the clock
  clock_touches : (k : ℕ) → Among S t.n k → reads_clock t (entry_at t k) ≡ true → T (reaches_clock t S)
  unfolding reaches_clock
  clock_touches k here is = some_here t.n _ k here.0 (both_joined (S k) _ here.1 (rw is tt))

  -- and every update of a variable that it reads
  read_feeds : (k : ℕ) → Among S t.n k → (x : ℕ) → is_read (operands_of (entry_at t k)) x ≡ true → Feeds t S x
  read_feeds k here x is = record { by = by }
    where
      by : (j : ℕ) → j < t.n → (u : Change) → update_of (entry_at t j) ≡ some u → u.variable ≡ x → T (S j) × Among S j u.number
      by j below u update named =
          let held = closed k j here.0 below here.1 (rw (reads_every_update t k j u (rw named is) update) tt) in
          let gives = subst (λ (c : Option Change). gives_operand c (operands_of (entry_at t j)) ≡ true) update (gives_operand_lem (entry_at t j)) in
          (held, operand_among j (below, held) u.number gives)

  -- this step, after two pasts
  module _ {ms₁ ms₂ : List Moment} (past : Alike (touching_by t S) S t.n ms₁ ms₂) {s₁ s₂ : Step} (steps : StepsAgree (touching_by t S) s₁ s₂) where
    -- all that an entry of the set looks at is the same
    same_seen : (k : ℕ) → Among S t.n k → {r₁ r₂ : Row} → SameTo S k r₁ r₂
        → let places = places_of (entry_at t k) in
        SameSeen t (entry_at t k) (row_at r₁ places.first) (row_at r₂ places.first) (row_at r₁ places.second) (row_at r₂ places.second)
        (givens_at t ms₁ s₁ r₁ k) (givens_at t ms₂ s₂ r₂ k)
    unfolding givens_at steps_of
    same_seen k here {r₁} {r₂} rows =
        let places = places_of (entry_at t k) in
        let first = operand_among k here places.first in
        let second = operand_among k here places.second in
        let imported = import_touches k here places.imported in
        let before = alike_to k (omega (arith, here.0)) past in
        let now : Alike (touching_by t S) S k (record { step = s₁; row = r₁ } ∷ ms₁) (record { step = s₂; row = r₂ } ∷ ms₂) = one_more steps rows before in
        record {
          first = λ is. rows.at places.first (first is);
          second = λ is. rows.at places.second (second is);
          told = λ is. steps.reports places.imported (imported is);
          clock = λ is. ap pos (steps.times (clock_touches k here is));
          reported = λ is. reported_same places.imported (imported is) now;
          held = λ is. held_same (read_feeds k here places.variable is) k (omega (arith, here.0)) rows past;
          paired = λ is also. pair_same places.first places.second (first is) (second also) now;
          stood = λ is. ap is_true (condition_same places.first (first is) before);
          failed = λ is. ap is_false (condition_same places.first (first is) before);
          latest = λ is reads. latest_same places.first (first is) (clock_touches k here reads) now;
        }

    -- so its result is, entry after entry
    rows_same : (most k : ℕ) → k ≤ most → k ≤ t.n → SameTo S k (row_to judge t ms₁ s₁ k) (row_to judge t ms₂ s₂ k)
    unfolding judge
    rows_same zero k l below = record { at = λ j among. absurd (omega (arith, among.0)) }
    rows_same (suc most) k l below =
        record {
          at = λ j among.
              let seen = same_seen j (omega (arith, among.0), among.1) (rows_same most j (omega (arith, among.0)) (omega (arith, among.0))) in
              row_holds judge t ms₁ s₁ k j among.0 ∙ looks_nowhere_else t (entry_at t j) seen ∙ sym (row_holds judge t ms₂ s₂ k j among.0);
        }

  -- and step after step
  pasts_same : (g h : History) → Agree (touching_by t S) g h → Alike (touching_by t S) S t.n (moments_by judge t g) (moments_by judge t h)
  unfolding moments_by
  pasts_same [] [] agree = nothing
  pasts_same [] (b ∷ h) agree = absurd agree
  pasts_same (a ∷ g) [] agree = absurd agree
  pasts_same (a ∷ g) (b ∷ h) agree =
      let past = pasts_same g h agree.1 in one_more agree.0 (rows_same past agree.0 t.n t.n (omega arith) (omega arith)) past

-- what two such pasts say of an entry of the set
said_same : {r : Touching} {S : Entries} {n : ℕ} {ms₁ ms₂ : List Moment} → Alike r S n ms₁ ms₂ → (k : ℕ) → Among S n k
    → map (λ (m : Moment). row_at m.row k) ms₁ ≡ map (λ (m : Moment). row_at m.row k) ms₂
said_same nothing k among = refl
said_same (one_more steps rows past) k among = λ i. rows.at k among i ∷ said_same past k among i

-- the results of a rule stand in the rows of the history's moments
rule_rows : (t : Table) (k : ℕ) (h : History) → results_of_rule t k h ≡ map (λ (m : Moment). row_at m.row k) (moments_by judge t h)
unfolding results_of_rule result_at result_by moments_by
rule_rows t k [] = refl
rule_rows t k (s ∷ h) = ap (λ (earlier : List Outcome). result_at t (s ∷ h) k ∷ earlier) (rule_rows t k h)

-- "Two streams that agree on what a rule reaches", for any closed set that holds the rule
pub same_results : (t : Table) → table_fault t ≡ Ok tt → (S : Entries) → Closed (leads_to t) t.n S
    → (g h : History) → Agree (touching_by t S) g h → (k : ℕ) → k < t.n → T (S k) → results_of_rule t k g ≡ results_of_rule t k h
same_results t good S closed g h agree k below is =
    rule_rows t k g ∙ said_same (pasts_same t (sound_table t good) S closed g h agree) k (below, is) ∙ sym (rule_rows t k h)

-- and so for what a reach shows
pub shown_same : (t : Table) → table_fault t ≡ Ok tt → (k : ℕ) → k < t.n → (r : Reach) → Shows t k r
    → (g h : History) → Agree (touching_in r) g h → results_of_rule t k g ≡ results_of_rule t k h
shown_same t good k below r shows g h agree =
    let reached : touching_in r ≡ touching_by t (marked_in r) = λ i. record { imports = fun_ext shows.imports i; clock = shows.clock i } in
    same_results t good (marked_in r) shows.entries.closed g h (subst (λ (c : Touching). Agree c g h) reached agree) k below shows.entries.holds
