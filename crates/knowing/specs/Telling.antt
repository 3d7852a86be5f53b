-- What an entry is told by its own cell is what the moments before would tell it.
use Rattle.std.specs.Prelude.{Bool, true, false, cond, List, [], ◌∷◌, ◌≡◌, refl, ℕ, suc, ◌<◌, ◌^◌, pos}
use Rattle.std.proofs.Common.{sym, ◌∙◌, ap}
use Rattle.values.specs.declared.Truth.{Truth}
use Rattle.values.specs.declared.Number.{Number}
use Rattle.values.specs.declared.Outcome.{Outcome}
use Rattle.values.specs.Truths.{truth_of, is_true, is_false}
use Rattle.values.specs.Outcomes.{condition_in, event_in}
use Rattle.table.specs.declared.Entry.{Entry}
use Rattle.table.specs.declared.Table.{Table}
use Rattle.table.specs.Kinds.{operands_of}
use Rattle.step.specs.declared.Told.{Told}
use Rattle.step.specs.Steps.{Step}
use Rattle.meaning.specs.declared.Givens.{Givens}
use Rattle.meaning.specs.Places.{places_of}
use Rattle.meaning.specs.Meaning.{meaning, starts, ends}
use Rattle.memory.specs.Memory.{memory_of, latest_now}
use Rattle.memory.specs.Recall.{kept_time, givens_from}
use Rattle.memory.specs.Laws.{marked_mark, kept_time_lem}
use Rattle.history.specs.History.{History, Moment, Row, row_at, pair_holds, condition_before, latest_time, judge, row_to, moments_by}
use Rattle.knowing.specs.Recalling.{latest_kept, left_by}
use Rattle.knowing.specs.Fitting.{HistoryFits}
use Rattle.knowing.specs.Carrying.{Carries, a_pair, a_start, an_end, a_time, an_update_lem, other}
use Rattle.knowing.specs.Cells.{open_next}

-- a time is found again, whether it is kept now or was kept before
time_found : (b : Bool) (time kept : ℕ) (number : Number) → time < 2 ^ 47 → kept_time kept ≡ number
    → kept_time (latest_now b (suc time) kept) ≡ cond b (Number.Whole (pos time)) number
time_found true time kept number fits before = kept_time_lem time fits
time_found false time kept number fits before = before

-- the latest time is found again in its kept form
pub latest_found : (t : Table) (h : History) → HistoryFits h → (e : ℕ) → kept_time (latest_kept (moments_by judge t h) e) ≡ latest_time (moments_by judge t h) e
unfolding latest_kept latest_time moments_by
latest_found t [] fits e = refl
latest_found t (s ∷ h) fits e =
    let past = moments_by judge t h in
    time_found (event_in (row_at (row_to judge t past s t.n) e)) s.time (latest_kept past e) (latest_time past e) fits.0.time (latest_found t h fits.1 e)

-- what an entry looks at besides its operands' results, by the moments before and the results so far
abbrev looked_at : Told → Truth → Number → List Moment → Step → Row → ℕ → ℕ → Givens
looked_at told reported held past s row a b =
    let now : List Moment = record { step = s; row = row } ∷ past in
    record {
      told = told;
      clock = pos s.time;
      reported = reported;
      held = held;
      paired = pair_holds now a b;
      stood = is_true (condition_before past a);
      failed = is_false (condition_before past a);
      latest = latest_time now a;
    }

-- an entry says the same by its own cell
pub same_meaning : (e : Entry) → Carries e → (past : List Moment) → ((a : ℕ) → kept_time (latest_kept past a) ≡ latest_time past a)
    → (s : Step) → s.time < 2 ^ 47 → (row : Row) (told : Told) (reported : Truth) (held : Number)
    → let a = (places_of e).first in
    let b = (places_of e).second in
    meaning e (row_at row a) (row_at row b) (givens_from told reported held (pos s.time) (suc s.time) (left_by e past) (row_at row a) (row_at row b))
    ≡ meaning e (row_at row a) (row_at row b) (looked_at told reported held past s row a b)
unfolding left_by memory_of operands_of places_of meaning latest_time
same_meaning e (a_pair a b) past kept s fits row told reported held =
    ap (λ (o : Bool). Outcome.Condition (truth_of o)) (open_next (record { step = s; row = row }) past a b)
same_meaning e (a_start a) past kept s fits row told reported held =
    ap (λ (b : Bool). Outcome.Event (starts (condition_in (row_at row a)) b)) (marked_mark (is_true (condition_before past a)))
same_meaning e (an_end a) past kept s fits row told reported held =
    ap (λ (b : Bool). Outcome.Event (ends (condition_in (row_at row a)) b)) (marked_mark (is_false (condition_before past a)))
same_meaning e (a_time a) past kept s fits row told reported held =
    ap Outcome.Numeric (time_found (event_in (row_at row a)) s.time (latest_kept past a) (latest_time past a) fits (kept a))
same_meaning e (an_update_lem a v b) past kept s fits row told reported held = refl
same_meaning e (other nothing no-update undone looks) past kept s fits row told reported held =
    let x = row_at row (places_of e).first in
    let y = row_at row (places_of e).second in
    looks x y (givens_from told reported held (pos s.time) (suc s.time) (left_by e past) x y)
    ∙ sym (looks x y (looked_at told reported held past s row (places_of e).first (places_of e).second))
