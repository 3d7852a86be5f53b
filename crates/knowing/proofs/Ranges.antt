-- Every number in a row is in range: a constant by 13, a sum by its definition, a time and a value by their step, a variable by what came before.
use Rattle.std.proofs.Math.Bool.{true}
use Rattle.std.specs.Prelude.{false, cond, not, ◌&&◌, ◌≡◌, eqb, pos}
use mathlib.Core.List.{List, [], ◌∷◌, ◌++◌}
use Rattle.std.proofs.Math.Option.{Option, none, some, get_or}
use Rattle.std.proofs.Math.Path.{refl, ap}
use Rattle.std.proofs.Common.{sym, ◌∙◌, arith}
use Prim.Native.Nat.{ℕ, zero, suc, ◌<◌, ◌≤◌, ◌^◌}
use Rattle.std.proofs.Math.Decide.{dec_lt}
use Rattle.std.proofs.Math.ListN.{get_or-eq_default}
use borrow.Author.Tests.{lt-ltb}
use Rattle.replies.specs.Plain.{never, both_true}
use Rattle.values.specs.declared.Number.{Number}
use Rattle.values.specs.declared.Outcome.{Outcome}
use Rattle.values.specs.Numbers.{fits_n}
use Rattle.values.specs.Outcomes.{event_in, number_in, is_done}
use Rattle.refusals.specs.declared.Refusal.{Refusal}
use Rattle.refusals.specs.Accepting.{unless_accepted}
use Rattle.table.specs.declared.Table.{Table}
use Rattle.table.specs.Limits.{limits}
use Rattle.table.specs.Kinds.{Change, operands_of, update_of}
use Rattle.table.specs.Tables.{Shaped, entry_at, is_event, initial_of, zero_constant, is_undefined, every_slot, unused_slots}
use Rattle.table.specs.Sound.{Sound}
use Rattle.sound.specs.Slots.{slot_fails}
use Rattle.sound.specs.Firsts.{number_said_lem}
use Rattle.step.specs.Steps.{Step}
use Rattle.meaning.specs.Places.{places_of}
use Rattle.meaning.specs.Ranged.{GivensFit, meaning_fits}
use Rattle.history.specs.History.{History, Row, Moment, row_at, latest_time, given_by, or_else, given_before, held_before, held_at, givens_at, judge, row_to, moments_by, result_by, result_at}
use Rattle.knowing.specs.Fitting.{StepFits, HistoryFits}

-- every number in a row is in range
abbrev pub RowFits : Row → Type 0
RowFits row = (k : ℕ) → fits_n (number_in (row_at row k)) ≡ true

-- a moment in range: its step, and the numbers in its row
pub record MomentFits (m : Moment) : Type 0 where
  pub step : StepFits m.step
  pub row : RowFits m.row

-- so is every moment
abbrev pub MomentsFit : List Moment → Type 0
MomentsFit [] = Unit {0}
MomentsFit (m ∷ ms) = MomentFits m × MomentsFit ms

-- one result more
row_more : (row : Row) (o : Outcome) → RowFits row → fits_n (number_in o) ≡ true → RowFits (row ++ (o ∷ []))
row_more [] o fits here zero = here
row_more [] o fits here (suc k) = refl
row_more (x ∷ row) o fits here zero = fits zero
row_more (x ∷ row) o fits here (suc k) = row_more row o (λ j. fits (suc j)) here k

-- "Time of E is the time of its latest occurrence"
latest_fits : (ms : List Moment) → MomentsFit ms → (e : ℕ) → fits_n (latest_time ms e) ≡ true
unfolding latest_time
latest_fits [] fits e = refl
latest_fits (m ∷ ms) fits e =
    elim (event_in (row_at m.row e)) as (λ b. fits_n (cond b (Number.Whole (pos m.step.time)) (latest_time ms e)) ≡ true)
    [ true ↦ lt-ltb m.step.time (2 ^ 47) (omega arith) | false ↦ latest_fits ms fits.1 e ]

-- "An update whose event occurs gives the variable that number, undefined included."
update_fits : (u : Option Change) (o : Outcome) (row : Row) (x : ℕ) (before : Option Number) (initial : Number) → RowFits row
    → fits_n (get_or before initial) ≡ true → fits_n (get_or (or_else (given_by u o row x) before) initial) ≡ true
update_fits none o row x before initial fits held = held
update_fits (some u) o row x before initial fits held =
    elim (is_done o && eqb u.variable x) as (λ b. fits_n (get_or (or_else (cond b (some (number_in (row_at row u.number))) none) before) initial) ≡ true)
    [ true ↦ fits u.number | false ↦ held ]

-- what a variable holds after the updates before k
given_fits : (t : Table) (row : Row) (x : ℕ) (initial : Number) → RowFits row → fits_n initial ≡ true
    → (k : ℕ) → fits_n (get_or (given_before t row x k) initial) ≡ true
unfolding given_before
given_fits t row x initial fits held zero = held
given_fits t row x initial fits held (suc k) =
    update_fits (update_of (entry_at t k)) (row_at row k) row x (given_before t row x k) initial fits (given_fits t row x initial fits held k)

-- "unused variable slots undefined"
unused_undefined : (t : Table) → unused_slots t ≡ true → every_slot t.v limits.variables (λ x. is_undefined (initial_of t x)) ≡ true
unfolding unused_slots
unused_undefined t unused =
    let entries = every_slot t.n limits.slots (λ k. zero_constant (operands_of (entry_at t k))) in
    let imports = every_slot t.q limits.imports (λ i. not (is_event t i)) in
    (both_true (entries && imports) (every_slot t.v limits.variables (λ x. is_undefined (initial_of t x))) unused).1

-- and what is undefined is in range
unused_fits : (t : Table) → unused_slots t ≡ true → (x : ℕ) → t.v ≤ x → x < limits.variables → fits_n (initial_of t x) ≡ true
unused_fits t unused x past slot = by (initial_of t x) refl
  where
    by : (n : Number) → initial_of t x ≡ n → fits_n n ≡ true
    by Number.Undefined e = refl
    by (Number.Whole z) e =
        never (sym (slot_fails t.v limits.variables (λ y. is_undefined (initial_of t y)) x slot past (ap is_undefined e)) ∙ unused_undefined t unused)

module _ (t : Table) (shape : Shaped t) (sound : Sound t) where
  -- the number that a variable starts with: by 13, or undefined where it is unused or no variable at all
  initial_fits : (x : ℕ) → fits_n (initial_of t x) ≡ true
  unfolding initial_of
  initial_fits x = by (dec_lt x t.v) (dec_lt x limits.variables)
    where
      by : Dec (x < t.v) → Dec (x < limits.variables) → fits_n (initial_of t x) ≡ true
      by (yes h) slot = unless_accepted (fits_n (initial_of t x)) Refusal.Range (sym (number_said_lem (initial_of t x)) ∙ sound.numbers x h)
      by (no h) (yes slot) = unused_fits t sound.unused x (omega arith) slot
      by (no h) (no past) = ap fits_n (get_or-eq_default t.variables _ (omega (arith, shape.variables)))

  -- what earlier steps left in a variable
  pub held_fits : (past : List Moment) → MomentsFit past → (x : ℕ) → fits_n (held_before t past x) ≡ true
  unfolding held_before
  held_fits [] fits x = initial_fits x
  held_fits (m ∷ ms) fits x = given_fits t m.row x (held_before t ms x) fits.0.row (held_fits ms fits.1 x) t.n

  module _ (past : List Moment) (earlier : MomentsFit past) (s : Step) (now : StepFits s) where
    -- what entry k looks at
    givens_fit : (row : Row) → RowFits row → (k : ℕ) → GivensFit (givens_at t past s row k)
    unfolding givens_at held_at
    givens_fit row fits k =
        let places = places_of (entry_at t k) in
        record {
          told = now.values places.imported;
          clock = lt-ltb s.time (2 ^ 47) (omega arith);
          held = given_fits t row places.variable (held_before t past places.variable) fits (held_fits past earlier places.variable) k;
          latest = latest_fits (record { step = s; row = row } ∷ past) (record { step = now; row = fits }, earlier) places.first;
        }

    -- entry after entry
    row_fits : (k : ℕ) → k ≤ t.n → RowFits (row_to judge t past s k)
    unfolding row_to judge
    row_fits zero h = λ i. refl
    row_fits (suc k) h =
        let row = row_to judge t past s k in
        let before = row_fits k (omega arith) in
        row_more row (judge t past s row k) before
        (meaning_fits t k (entry_at t k) (sound.operands k (omega arith)) _ _ (givens_at t past s row k) (givens_fit row before k))

  -- step after step
  pub moments_fit : (h : History) → HistoryFits h → MomentsFit (moments_by judge t h)
  unfolding moments_by
  moments_fit [] fits = tt
  moments_fit (s ∷ h) fits =
      let past = moments_fit h fits.1 in
      (record { step = fits.0; row = row_fits (moments_by judge t h) past s fits.0 t.n (omega arith) }, past)

  -- so is every result that the logic gives
  pub result_fits : (h : History) → HistoryFits h → (k : ℕ) → fits_n (number_in (result_at t h k)) ≡ true
  unfolding moments_by result_by result_at
  result_fits [] fits k = refl
  result_fits (s ∷ h) fits k = (moments_fit (s ∷ h) fits).0.row k
