-- Two pasts that agree on what touches a set of entries give the set's entries the same.
use Rattle.std.specs.Prelude.{Bool, true, false, not, ◌&&◌, ◌||◌, List, [], ◌∷◌, ◌≡◌, T, eqb, pos}
use Rattle.std.proofs.Math.Bool.{cond, and-false}
use Rattle.std.proofs.Math.Option.{Option, none, some, get_or}
use Rattle.std.proofs.Math.Path.{refl, ap}
use Rattle.std.proofs.Common.{sym, ◌∙◌, eqb→eq}
use Prim.Native.Nat.{ℕ, zero, suc, ◌<◌, ◌≤◌}
use native.Mathlib.Omega.{arith}
use Rattle.values.specs.declared.Number.{Number}
use Rattle.values.specs.declared.Outcome.{Outcome}
use Rattle.values.specs.Outcomes.{condition_in, event_in, number_in, is_done}
use Rattle.table.specs.declared.Table.{Table}
use Rattle.table.specs.Kinds.{Change, update_of}
use Rattle.table.specs.Tables.{entry_at}
use Rattle.step.specs.declared.Told.{Told}
use Rattle.step.specs.Steps.{told_by}
use Rattle.history.specs.History.{Moment, Row, row_at, LastReport, reported_at, last_report, last_value, pair_holds, condition_before, latest_time, given_by, or_else, given_before, held_before, held_at, steps_of}
use Rattle.history.specs.Pairs.{pair_next}
use Rattle.reach.specs.Reaching.{Entries}
use Rattle.agreement.specs.Agreeing.{Touching, StepsAgree}

-- entry j is one of the set, and stands before k
abbrev pub Among : Entries → ℕ → ℕ → Type 0
Among S k j = (j < k) × T (S j)

-- two rows have the same results at the entries of the set before k
pub record SameTo (S : Entries) (k : ℕ) (r₁ r₂ : Row) : Type 0 where
  pub at : (j : ℕ) → Among S k j → row_at r₁ j ≡ row_at r₂ j

-- so they have before any earlier entry
same_to : {S : Entries} {k : ℕ} (j : ℕ) → j ≤ k → {r₁ r₂ : Row} → SameTo S k r₁ r₂ → SameTo S j r₁ r₂
same_to j l rows = record { at = λ o among. rows.at o (omega (arith, among.0), among.1) }

-- two pasts: "equal in number", their steps agree, and their rows have the same results at the entries of the set before k
pub data Alike (r : Touching) (S : Entries) (k : ℕ) : List Moment → List Moment → Type 0 where
  nothing : Alike r S k [] []
  one_more : {m₁ m₂ : Moment} {ms₁ ms₂ : List Moment} → StepsAgree r m₁.step m₂.step → SameTo S k m₁.row m₂.row → Alike r S k ms₁ ms₂
      → Alike r S k (m₁ ∷ ms₁) (m₂ ∷ ms₂)

-- the last value is the same after one more step that tells the same, whatever its time
last_same : (told : Told) (time₁ time₂ : ℕ) (earlier₁ earlier₂ : LastReport) → last_value earlier₁ ≡ last_value earlier₂
    → last_value (reported_at time₁ told earlier₁) ≡ last_value (reported_at time₂ told earlier₂)
last_same Told.Nothing time₁ time₂ earlier₁ earlier₂ same = same
last_same (Told.Condition c) time₁ time₂ earlier₁ earlier₂ same = refl
last_same (Told.Event x) time₁ time₂ earlier₁ earlier₂ same = same

module _ {r : Touching} {S : Entries} {k : ℕ} where
  -- so they are before any earlier entry
  pub alike_to : (j : ℕ) → j ≤ k → {ms₁ ms₂ : List Moment} → Alike r S k ms₁ ms₂ → Alike r S j ms₁ ms₂
  alike_to j l nothing = nothing
  alike_to j l (one_more steps rows past) = one_more steps (same_to j l rows) (alike_to j l past)

  -- the last reported value of an import that touches the set
  pub reported_same : (i : ℕ) → T (r.imports i) → {ms₁ ms₂ : List Moment} → Alike r S k ms₁ ms₂
      → last_value (last_report (steps_of ms₁) i) ≡ last_value (last_report (steps_of ms₂) i)
  unfolding last_report steps_of
  reported_same i touches nothing = refl
  reported_same i touches (one_more {m₁ = m₁} {m₂ = m₂} {ms₁ = ms₁} {ms₂ = ms₂} steps rows past) =
      let earlier₁ = last_report (steps_of ms₁) i in
      let earlier₂ = last_report (steps_of ms₂) i in
      ap (λ (told : Told). last_value (reported_at m₁.step.time told earlier₁)) (steps.reports i touches)
      ∙ last_same (told_by m₂.step.reports i) m₁.step.time m₂.step.time earlier₁ earlier₂ (reported_same i touches past)

  -- a pair of two events of the set
  pub pair_same : (a b : ℕ) → Among S k a → Among S k b → {ms₁ ms₂ : List Moment} → Alike r S k ms₁ ms₂ → pair_holds ms₁ a b ≡ pair_holds ms₂ a b
  pair_same a b first second nothing = refl
  pair_same a b first second (one_more {m₁ = m₁} {m₂ = m₂} {ms₁ = ms₁} {ms₂ = ms₂} steps rows past) =
      pair_next m₁ ms₁ a b
      ∙ (λ i. (pair_same a b first second past i || event_in (rows.at a first i)) && not (event_in (rows.at b second i)))
      ∙ sym (pair_next m₂ ms₂ a b)

  -- a condition of the set, one step before
  pub condition_same : (a : ℕ) → Among S k a → {ms₁ ms₂ : List Moment} → Alike r S k ms₁ ms₂ → condition_before ms₁ a ≡ condition_before ms₂ a
  condition_same a among nothing = refl
  condition_same a among (one_more steps rows past) = ap condition_in (rows.at a among)

  -- the time of an event of the set, if the clock touches it
  pub latest_same : (a : ℕ) → Among S k a → T r.clock → {ms₁ ms₂ : List Moment} → Alike r S k ms₁ ms₂ → latest_time ms₁ a ≡ latest_time ms₂ a
  unfolding latest_time
  latest_same a among touches nothing = refl
  latest_same a among touches (one_more steps rows past) =
      λ i. cond (event_in (rows.at a among i)) (Number.Whole (pos (steps.times touches i))) (latest_same a among touches past i)

-- what a change gives x, if it gives it anything
change_same : (c : Option Change) (x : ℕ) {o₁ o₂ : Outcome} (r₁ r₂ : Row)
    → ((u : Change) → c ≡ some u → u.variable ≡ x → (o₁ ≡ o₂) × (row_at r₁ u.number ≡ row_at r₂ u.number)) → given_by c o₁ r₁ x ≡ given_by c o₂ r₂ x
change_same none x r₁ r₂ same = refl
change_same (some u) x {o₁} {o₂} r₁ r₂ same = here (eqb u.variable x) (λ is. same u refl (eqb→eq u.variable x is))
  where
    here : (b : Bool) → (T b → (o₁ ≡ o₂) × (row_at r₁ u.number ≡ row_at r₂ u.number))
        → cond (is_done o₁ && b) (some (number_in (row_at r₁ u.number))) none ≡ cond (is_done o₂ && b) (some (number_in (row_at r₂ u.number))) none
    here true both = λ i. cond (is_done ((both tt).0 i) && true) (some (number_in ((both tt).1 i))) none
    here false both = rw (and-false (is_done o₁), and-false (is_done o₂))

-- the set holds every update of variable x, and the number that it gives
pub record Feeds (t : Table) (S : Entries) (x : ℕ) : Type 0 where
  pub by : (j : ℕ) → j < t.n → (u : Change) → update_of (entry_at t j) ≡ some u → u.variable ≡ x → T (S j) × Among S j u.number

module _ {t : Table} {S : Entries} {x : ℕ} (feeds : Feeds t S x) where
  -- what the entries before k give such a variable
  given_before_lem : (k : ℕ) → k ≤ t.n → {r₁ r₂ : Row} → SameTo S k r₁ r₂ → given_before t r₁ x k ≡ given_before t r₂ x k
  unfolding given_before
  given_before_lem zero l rows = refl
  given_before_lem (suc k) l {r₁} {r₂} rows =
      let earlier = same_to k (omega arith) rows in
      let here = change_same (update_of (entry_at t k)) x r₁ r₂
      (λ u is named. let fed = feeds.by k l u is named in (rows.at k (omega arith, fed.0), earlier.at u.number fed.1)) in
      let before = given_before_lem k (omega arith) earlier in
      λ i. or_else (here i) (before i)

  -- what earlier steps left in it
  held_before_lem : {r : Touching} {ms₁ ms₂ : List Moment} → Alike r S t.n ms₁ ms₂ → held_before t ms₁ x ≡ held_before t ms₂ x
  unfolding held_before
  held_before_lem nothing = refl
  held_before_lem (one_more steps rows past) = λ i. get_or (given_before_lem t.n (omega arith) rows i) (held_before_lem past i)

  -- and so what a read of it at entry k sees
  pub held_same : (k : ℕ) → k ≤ t.n → {r₁ r₂ : Row} → SameTo S k r₁ r₂ → {r : Touching} {ms₁ ms₂ : List Moment} → Alike r S t.n ms₁ ms₂
      → held_at t ms₁ r₁ k x ≡ held_at t ms₂ r₂ k x
  unfolding held_at
  held_same k l rows past = λ i. get_or (given_before_lem k l rows i) (held_before_lem past i)
