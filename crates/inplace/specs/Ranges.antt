-- What a walk over the entries leaves: every number and every kept time in range, and every slot in its place.
use Rattle.std.specs.Prelude.{Bool, true, false, cond, ◌≡◌, refl, length, get_or, set, Ok}
use mathlib.Core.List.{List, [], ◌∷◌}
use Rattle.std.proofs.Common.{◌∙◌, arith, length-set, get_or-set_other}
use Rattle.std.proofs.Math.Path.{ap}
use Prim.Native.Nat.{ℕ, zero, suc, ◌<◌, ◌≤◌, ◌^◌}
use Rattle.std.proofs.Math.Decide.{dec_lt}
use borrow.Author.Tests.{lt-ltb, le-leb, leb-true}
use Rattle.std.proofs.lemmas.List.{length-replicate}
use Rattle.std.proofs.Math.ListN.{get_or-eq_default}
use Rattle.values.specs.declared.Number.{Number}
use Rattle.values.specs.declared.Outcome.{Outcome}
use Rattle.values.specs.declared.Slot.{Slot}
use Rattle.values.specs.Truths.{is_true, is_false}
use Rattle.values.specs.Numbers.{fits_n}
use Rattle.values.specs.Outcomes.{condition_in, event_in, number_in, is_done}
use Rattle.bits.specs.Filled.{get_d_padded}
use Rattle.table.specs.Limits.{limits}
use Rattle.table.specs.Tables.{entry_at, number_at}
use Rattle.step.specs.declared.Taken.{Taken}
use Rattle.step.specs.Steps.{value_in}
use Rattle.step.specs.Taking.{told_at}
use Rattle.meaning.specs.Places.{places_of}
use Rattle.meaning.specs.Meaning.{meaning}
use Rattle.meaning.specs.Ranged.{GivensFit, meaning_fits}
use Rattle.memory.specs.declared.Memory.{Memory}
use Rattle.memory.specs.Memory.{mark, latest_now, marked, open_now, memory_of, remember}
use Rattle.memory.specs.Recall.{kept_fits, kept_time, time_kept}
use Rattle.monitor.specs.declared.Monitor.{Monitor}
use Rattle.monitor.specs.Keeping.{cell_at, held_in, unsound}
use Rattle.monitor.specs.Laws.{sound_of, kept_of}
use Rattle.monitor.specs.Stepping.{Walk, result_in, held_after, recalled, walked, walk_to}
use Rattle.words.specs.Layout.{Kept}

-- a step that was taken, in range: "Times are milliseconds, 0 to 2^47−1", and its values have 48 bits
pub record TakenFits (s : Taken) : Type 0 where
  pub time : s.time < 2 ^ 47
  pub values : (i : ℕ) → fits_n (value_in (told_at s.told i)) ≡ true
  pub reported : length s.reported ≡ limits.imports

-- what holds of every slot, and of what is put into one, holds of every slot after
all_set {ℓ} : {A : Type ℓ} (P : A → Type 0) (d a : A) (l : List A) → P a → ((j : ℕ) → P (get_or l j d)) → (k j : ℕ) → P (get_or (set l k a) j d)
all_set P d a [] here each zero j = each j
all_set P d a [] here each (suc k) j = each j
all_set P d a (x ∷ l) here each zero zero = here
all_set P d a (x ∷ l) here each zero (suc j) = each (suc j)
all_set P d a (x ∷ l) here each (suc k) zero = each zero
all_set P d a (x ∷ l) here each (suc k) (suc j) = all_set P d a l here (λ i. each (suc i)) k j

-- a time that is kept in range is in range
kept_time_fits : (c : ℕ) → fits_n (kept_time c) ≡ true
kept_time_fits zero = refl
kept_time_fits (suc t) = by (kept_fits (suc t)) refl
  where
    by : (b : Bool) → kept_fits (suc t) ≡ b → fits_n (cond b (time_kept (suc t)) Number.Undefined) ≡ true
    by true e = lt-ltb t (2 ^ 47) (omega (arith, leb-true (suc t) (2 ^ 47) e))
    by false e = refl

-- a walk so far: numbers, what the variables hold and what the entries remember, all in range
pub record WalkFits (w : Walk) : Type 0 where
  pub results : (j : ℕ) → fits_n (number_in (result_in w.results j)) ≡ true
  pub held : (x : ℕ) → fits_n (number_at w.held x) ≡ true
  pub cells : (j : ℕ) → kept_fits (get_or w.cells j 0) ≡ true

-- a mark is in range, and so is the latest of two times that are
remember_fits : (kept : Memory) (x y : Outcome) (now cell : ℕ) → kept_fits now ≡ true → kept_fits cell ≡ true → kept_fits (remember kept x y now cell) ≡ true
remember_fits Memory.Nothing x y now cell late old = old
remember_fits Memory.Open x y now cell late old =
    elim (open_now (marked cell) (event_in x) (event_in y)) as (λ b. kept_fits (mark b) ≡ true) [ true ↦ refl | false ↦ refl ]
remember_fits Memory.Stood x y now cell late old = elim (is_true (condition_in x)) as (λ b. kept_fits (mark b) ≡ true) [ true ↦ refl | false ↦ refl ]
remember_fits Memory.Failed x y now cell late old = elim (is_false (condition_in x)) as (λ b. kept_fits (mark b) ≡ true) [ true ↦ refl | false ↦ refl ]
remember_fits Memory.Latest x y now cell late old = elim (event_in x) as (λ b. kept_fits (latest_now b now cell) ≡ true) [ true ↦ late | false ↦ old ]

-- an update gives a variable a number in range
given_fits : (b : Bool) (v : ℕ) (n : Number) (held : List Number) → fits_n n ≡ true → ((x : ℕ) → fits_n (number_at held x) ≡ true)
    → (x : ℕ) → fits_n (number_at (held_after b v n held) x) ≡ true
given_fits true v n held here each x = all_set (λ slot. fits_n slot ≡ true) _ n held here each v x
given_fits false v n held here each x = each x

module _ (m : Monitor) (shape : Kept m) (good : unsound m ≡ Ok tt) where
  -- what a sound monitor holds is in range, and past the slots there is nothing
  held_first : (x : ℕ) → fits_n (held_in m x) ≡ true
  held_first x =
      elim (dec_lt x limits.variables) [
        | yes slot ↦ (kept_of m good).held x slot
        | no past ↦ ap fits_n (get_or-eq_default m.held _ (omega (arith, shape.held)))
      ]

  cells_first : (j : ℕ) → kept_fits (cell_at m j) ≡ true
  cells_first j =
      elim (dec_lt j limits.slots) [
        | yes slot ↦ (kept_of m good).cells j slot
        | no past ↦ ap kept_fits (get_or-eq_default m.cells 0 (omega (arith, shape.cells)))
      ]

  module _ (s : Taken) (fits : TakenFits s) where
    -- what entry k looks at is in range
    recalled_fits : (w : Walk) → WalkFits w → (k : ℕ) → GivensFit (recalled m s w k)
    unfolding recalled
    recalled_fits w so k =
        let places = places_of (entry_at m.table k) in
        record {
          told = fits.values places.imported;
          clock = lt-ltb s.time (2 ^ 47) fits.time;
          held = so.held places.variable;
          latest = kept_time_fits (latest_now (event_in (result_in w.results places.first)) (suc s.time) (cell_at m k));
        }

    -- entry after entry
    pub walk_fits : (k : ℕ) → k ≤ m.table.n → WalkFits (walk_to m s k)
    unfolding walk_to walked
    walk_fits zero h =
        record {
          results = λ j. ap (λ (slot : Slot). fits_n (number_in slot.outcome)) (get_d_padded [] limits.slots j (record { outcome = Outcome.Nothing }));
          held = held_first;
          cells = cells_first;
        }
    walk_fits (suc k) h =
        let w = walk_to m s k in
        let so = walk_fits k (omega arith) in
        let e = entry_at m.table k in
        let x = result_in w.results (places_of e).first in
        let y = result_in w.results (places_of e).second in
        record {
          results = λ j. all_set (λ slot. fits_n (number_in slot.outcome) ≡ true) _ _ w.results
              (meaning_fits m.table k e ((sound_of m good).operands k (omega arith)) x y (recalled m s w k) (recalled_fits w so k))
              so.results k j;
          held = given_fits (is_done (meaning e x y (recalled m s w k))) (places_of e).variable (number_in y) w.held (so.results (places_of e).second) so.held;
          cells = λ j. all_set (λ c. kept_fits c ≡ true) 0 _ w.cells
              (remember_fits (memory_of e) x y (suc s.time) (cell_at m k) (le-leb (suc s.time) (2 ^ 47) (omega (arith, fits.time))) (cells_first k))
              so.cells k j;
        }

-- a walk has as many slots as the monitor
pub record WalkKept (w : Walk) : Type 0 where
  pub results : length w.results ≡ limits.slots
  pub held : length w.held ≡ limits.variables
  pub cells : length w.cells ≡ limits.slots

-- a variable that is given a number keeps its slot
length_given : (b : Bool) (v : ℕ) (n : Number) (held : List Number) → length (held_after b v n held) ≡ length held
length_given true v n held = length-set held v n
length_given false v n held = refl

-- the slots stay
pub walk_kept : (m : Monitor) (s : Taken) → Kept m → (k : ℕ) → WalkKept (walk_to m s k)
unfolding walk_to walked
walk_kept m s shape zero =
    record { results = length-replicate {A = Slot} limits.slots (record { outcome = Outcome.Nothing }); held = shape.held; cells = shape.cells }
walk_kept m s shape (suc k) =
    let w = walk_to m s k in
    let so = walk_kept m s shape k in
    let e = entry_at m.table k in
    let x = result_in w.results (places_of e).first in
    let y = result_in w.results (places_of e).second in
    let o = meaning e x y (recalled m s w k) in
    record {
      results = length-set w.results k (record { outcome = o }) ∙ so.results;
      held = length_given (is_done o) (places_of e).variable (number_in y) w.held ∙ so.held;
      cells = length-set w.cells k (remember (memory_of e) x y (suc s.time) (cell_at m k)) ∙ so.cells;
    }

-- what an entry remembers is not touched before its turn
pub cell_untouched : (m : Monitor) (s : Taken) (k j : ℕ) → k ≤ j → get_or (walk_to m s k).cells j 0 ≡ cell_at m j
unfolding walk_to walked
cell_untouched m s zero j h = refl
cell_untouched m s (suc k) j h =
    let w = walk_to m s k in
    let e = entry_at m.table k in
    get_or-set_other w.cells k j
    (remember (memory_of e) (result_in w.results (places_of e).first) (result_in w.results (places_of e).second) (suc s.time) (cell_at m k)) 0
    (λ at. omega arith)
    ∙ cell_untouched m s k j (omega arith)
