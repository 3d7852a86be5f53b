-- A walk over the entries, entry after entry, has what the history says.
use Rattle.std.specs.Prelude.{List, ◌∷◌, ◌≡◌, refl, ℕ, zero, suc, ◌<◌, ◌≤◌, pos}
use Rattle.std.proofs.Math.Option.{Option, get_or}
use Rattle.std.proofs.Math.Path.{sym, ap}
use Rattle.std.proofs.Common.{◌∙◌, arith}
use Rattle.std.proofs.Math.ListN.{set}
use Rattle.values.specs.declared.Number.{Number}
use Rattle.values.specs.declared.Outcome.{Outcome}
use Rattle.values.specs.declared.Slot.{Slot}
use Rattle.values.specs.Outcomes.{number_in, is_done}
use Rattle.bits.specs.Bits.{list_to}
use Rattle.bits.specs.Lists.{get_d_list}
use Rattle.bits.specs.Reading.{got}
use Rattle.table.specs.declared.Table.{Table}
use Rattle.table.specs.Limits.{limits}
use Rattle.table.specs.Tables.{entry_at, number_at}
use Rattle.table.specs.Sound.{Sound}
use Rattle.step.specs.declared.Taken.{Taken}
use Rattle.values.specs.declared.Truth.{Truth}
use Rattle.step.specs.Steps.{Step, told_by}
use Rattle.step.specs.Taking.{truth_at, taken_of}
use Rattle.meaning.specs.Places.{places_of}
use Rattle.meaning.specs.Inside.{Inside, places_inside}
use Rattle.meaning.specs.Meaning.{meaning}
use Rattle.memory.specs.Memory.{memory_of, remember}
use Rattle.memory.specs.Recall.{givens_from}
use Rattle.history.specs.History.{History, Moment, Row, row_at, last_report, last_value, given_before, held_before, held_at, steps_of, givens_at, judge, row_to, moments_by}
use Rattle.monitor.specs.Keeping.{cell_at}
use Rattle.monitor.specs.Stepping.{Walk, result_in, held_after, recalled, walked, walk_to}
use Rattle.knowing.specs.Recalling.{left_by, recall_of}
use Rattle.knowing.specs.Fitting.{HistoryFits}
use Rattle.bits.specs.Filled.{list_all, list_set}
use Rattle.history.specs.Rows.{row_holds, row_stays, row_others, steps_back}
use Rattle.knowing.specs.Imports.{told_known, truth_known, reported_next}
use Rattle.knowing.specs.Carrying.{carries}
use Rattle.knowing.specs.Cells.{left_next, left_to, cells_start, cells_next}
use Rattle.knowing.specs.Telling.{latest_found, same_meaning}
use Rattle.knowing.specs.Variables.{given_stays, held_next}

-- the results of the first k entries of step s
abbrev row_of : Table → History → Step → ℕ → Row
row_of t h s k = row_to judge t (moments_by judge t h) s k

-- what a walk has after k entries of step s, from the history alone: their results, the variables after their updates, and cells that know step s
unfoldable pub walk_of : Table → History → Step → ℕ → Walk
walk_of t h s k =
    let past = moments_by judge t h in
    record {
      results = list_to limits.slots (λ j. record { outcome = row_at (row_of t h s k) j });
      held = list_to limits.variables (λ x. (held_at t past (row_of t h s t.n) k x));
      cells = list_to limits.slots (left_to t (moments_by judge t (s ∷ h)) past k);
    }

-- what is taken from a step that comes after a history
abbrev taken_after : Table → History → Step → ℕ → Taken
taken_after t h s end = taken_of (recall_of t h).reported (got s end)

-- before the first entry
walk_start : (t : Table) (h : History) (s : Step) (end : ℕ) → walk_to (recall_of t h) (taken_after t h s end) 0 ≡ walk_of t h s 0
unfolding walk_to walk_of recall_of row_to held_at given_before
walk_start t h s end =
    let past = moments_by judge t h in
    let none : Slot = record { outcome = Outcome.Nothing } in
    let results = list_all limits.slots (λ j. none) none (λ j l. refl) in
    let cells = cells_start t limits.slots (moments_by judge t (s ∷ h)) past in
    λ i. record { results = results i; held = (recall_of t h).held; cells = cells i }

module _ (t : Table) (sound : Sound t) (h : History) (s : Step) (end : ℕ) (fits : HistoryFits (s ∷ h)) (k : ℕ) (below : k < t.n) where
  -- entry k looks inside the slots
  inside : Inside (places_of (entry_at t k))
  inside = places_inside t sound.within k (omega (arith, sound.within.entries)) (entry_at t k) (sound.operands k below)

  -- at results that the row holds
  result_known : (j : ℕ) → j < limits.slots → result_in (walk_of t h s k).results j ≡ row_at (row_of t h s k) j
  unfolding walk_of
  result_known j slot =
      ap (λ (r : Slot). r.outcome)
      (get_d_list limits.slots (λ i. record { outcome = row_at (row_of t h s k) i }) j (record { outcome = Outcome.Nothing }) slot)

  -- at that of its first operand entry
  first_known : result_in (walk_of t h s k).results (places_of (entry_at t k)).first ≡ row_at (row_of t h s k) (places_of (entry_at t k)).first
  first_known = result_known (places_of (entry_at t k)).first inside.first

  -- and at that of its second
  second_known : result_in (walk_of t h s k).results (places_of (entry_at t k)).second ≡ row_at (row_of t h s k) (places_of (entry_at t k)).second
  second_known = result_known (places_of (entry_at t k)).second inside.second

  -- at the last reported value of its import
  reported_known : truth_at (taken_after t h s end).reported (places_of (entry_at t k)).imported
      ≡ last_value (last_report (s ∷ steps_of (moments_by judge t h)) (places_of (entry_at t k)).imported)
  reported_known =
      let i = (places_of (entry_at t k)).imported in
      ap (λ (slots : List Truth). truth_at slots i) (reported_next t h s)
      ∙ truth_known t (s ∷ h) i inside.imported
      ∙ ap (λ (steps : History). last_value (last_report (s ∷ steps) i)) (sym (steps_back judge t h))

  -- at what its variable holds here
  held_known : number_at (walk_of t h s k).held (places_of (entry_at t k)).variable
      ≡ held_at t (moments_by judge t h) (row_of t h s k) k (places_of (entry_at t k)).variable
  unfolding walk_of held_at
  held_known =
      let past = moments_by judge t h in
      let all = row_of t h s t.n in
      let x = (places_of (entry_at t k)).variable in
      let stays = given_stays t sound all (row_of t h s k) x k (omega arith) (row_stays judge t past s k t.n (omega arith)) in
      ap (λ (slot : Number). slot)
      (get_d_list limits.variables (λ i. (held_at t past all k i)) x Number.Undefined inside.variable)
      ∙ ap (λ (given : Option Number). get_or given (held_before t past x)) stays

  -- and at its cell
  cell_known : cell_at (recall_of t h) k ≡ left_by (entry_at t k) (moments_by judge t h)
  unfolding recall_of
  cell_known = get_d_list limits.slots (λ j. left_by (entry_at t j) (moments_by judge t h)) k 0 (omega (arith, sound.within.entries))

  -- so that its result is the one that the history says
  judged : let e = entry_at t k in
      let w = walk_of t h s k in
      meaning e (result_in w.results (places_of e).first) (result_in w.results (places_of e).second) (recalled (recall_of t h) (taken_after t h s end) w k)
      ≡ row_at (row_of t h s t.n) k
  unfolding recalled recall_of judge givens_at
  judged =
      let e = entry_at t k in
      let places = places_of e in
      let past = moments_by judge t h in
      let row = row_of t h s k in
      let x = first_known in
      let y = second_known in
      let told = told_known s.reports places.imported inside.imported in
      let reported = last_value (last_report (s ∷ steps_of past) places.imported) in
      let held = held_at t past row k places.variable in
      (λ i. meaning e (x i) (y i) (givens_from (told i) (reported_known i) (held_known i) (pos s.time) (suc s.time) (cell_known i) (x i) (y i)))
      ∙ same_meaning e (carries e) past (latest_found t h fits.1) s fits.0.time row (told_by s.reports places.imported) reported held
      ∙ sym (row_holds judge t past s t.n k below)

  -- it goes into its slot
  results_next : set (walk_of t h s k).results k (record { outcome = row_at (row_of t h s t.n) k }) ≡ (walk_of t h s (suc k)).results
  unfolding walk_of
  results_next =
      let past = moments_by judge t h in
      let slot : Outcome → Slot = λ o. record { outcome = o } in
      list_set limits.slots (λ j. slot (row_at (row_of t h s k) j)) (λ j. slot (row_at (row_of t h s (suc k)) j)) k (slot (row_at (row_of t h s t.n) k))
      (λ l. ap slot (row_stays judge t past s (suc k) t.n below k (omega arith)))
      (λ j l apart. ap slot (row_others judge t past s k j apart))

  -- the number that it gives goes into its variable
  variables_next : let places = places_of (entry_at t k) in
      held_after (is_done (row_at (row_of t h s t.n) k)) places.variable (number_in (row_at (row_of t h s k) places.second)) (walk_of t h s k).held
      ≡ (walk_of t h s (suc k)).held
  unfolding walk_of judge
  variables_next =
      let past = moments_by judge t h in
      let row = row_of t h s k in
      let all = row_of t h s t.n in
      let stays = row_stays judge t past s k t.n (omega arith) in
      let here = row_holds judge t past s t.n k below in
      held_next t sound k below row all stays (row_at row (places_of (entry_at t k)).first) (givens_at t past s row k) here past limits.variables

  -- and what it remembers into its cell
  memory_next : let e = entry_at t k in
      let past = moments_by judge t h in
      let row = row_of t h s k in
      set (walk_of t h s k).cells k (remember (memory_of e) (row_at row (places_of e).first) (row_at row (places_of e).second) (suc s.time) (left_by e past))
      ≡ (walk_of t h s (suc k)).cells
  unfolding walk_of moments_by
  memory_next =
      let e = entry_at t k in
      let past = moments_by judge t h in
      let now : Moment = record { step = s; row = row_of t h s t.n } in
      let stays = row_stays judge t past s k t.n (omega arith) in
      cells_next t limits.slots k (now ∷ past) past _ (left_next t k e (carries e) (sound.operands k below) (row_of t h s k) now past stays)

  -- one entry more
  walk_next : walked (recall_of t h) (taken_after t h s end) k (walk_of t h s k) ≡ walk_of t h s (suc k)
  unfolding walked recall_of
  walk_next =
      let e = entry_at t k in
      let w = walk_of t h s k in
      (λ i.
      record {
        results = set w.results k (record { outcome = judged i });
        held = held_after (is_done (judged i)) (places_of e).variable (number_in (second_known i)) w.held;
        cells = set w.cells k (remember (memory_of e) (first_known i) (second_known i) (suc s.time) (cell_known i));
      })
      ∙ (λ i. record { results = results_next i; held = variables_next i; cells = memory_next i })

-- after k entries
pub walk_to_lem : (t : Table) → Sound t → (h : History) (s : Step) (end : ℕ) → HistoryFits (s ∷ h) → (k : ℕ) → k ≤ t.n
    → walk_to (recall_of t h) (taken_after t h s end) k ≡ walk_of t h s k
unfolding walk_to
walk_to_lem t sound h s end fits zero below = walk_start t h s end
walk_to_lem t sound h s end fits (suc k) below =
    ap (walked (recall_of t h) (taken_after t h s end) k) (walk_to_lem t sound h s end fits k (omega arith)) ∙ walk_next t sound h s end fits k below
