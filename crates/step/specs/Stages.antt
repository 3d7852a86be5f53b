-- A step, a stage at a time: what is left to read after the report count, and after the reports.
use Rattle.std.specs.Prelude.{List, [], ◌≡◌, refl, ℕ, ◌≤◌, Result, Ok, Err, Some, None}
use Rattle.std.proofs.Common.{sym, ◌∙◌, arith}
use Rattle.std.proofs.Math.Path.{ap}
use borrow.Author.Tests.{le-leb}
use Rattle.refusals.specs.declared.Refusal.{Refusal}
use Rattle.refusals.specs.Answers.{Answer}
use Rattle.bits.specs.Bits.{field_at}
use Rattle.bits.specs.Reading.{Got, got, refused, answered, onward, onward_onward, ◌>>=◌, Reading, padding, ended}
use Rattle.table.specs.declared.Table.{Table}
use Rattle.values.specs.declared.Truth.{Truth}
use Rattle.step.specs.declared.Taken.{Taken}
use Rattle.step.specs.Steps.{Report, Step}
use Rattle.step.specs.Reader.{reports, read_step}
use Rattle.step.specs.Taking.{taken_of, taken_from}

-- "Zero bits up to a whole byte end it."
abbrev pub closing : Reading ℕ
closing = padding Refusal.StepCut Refusal.StepPadding >>= λ zeros. ended Refusal.StepLeftOver

-- after the reports
abbrev pub after_reports : ℕ → List ℕ → List Report → ℕ → Got Step
after_reports time s told at =
    onward (padding Refusal.StepCut Refusal.StepPadding s at)
    (λ zeros next. onward (ended Refusal.StepLeftOver s next) (λ end last. got (record { time = time; reports = told }) last))

-- after the report count, which ends at bit 53
abbrev pub after_count : Table → ℕ → ℕ → List ℕ → Got Step
after_count t time count s = onward (reports t count 0 [] s 53) (after_reports time s)

-- a refusal that was handed back is the step's own
pub taken_refused : (before : List Truth) (answer : Result Taken Refusal) {whole : Got Step} (r : Refusal) → answer ≡ Err r → whole ≡ refused r
    → taken_from before answer ≡ taken_of before whole
taken_refused before answer r is stops = rw (is, stops)

-- whether a step ends here as it should
unfoldable pub closed : List ℕ → ℕ → Answer
closed s at = answered (closing s at)

-- a step after a reading that was not refused
after_accepted : (before : List Truth) (step : Step) (m : Got ℕ) → answered m ≡ Ok tt
    → taken_of before (onward m (λ end last. got step last)) ≡ taken_of before (got step 0)
after_accepted before step (got end next) e = refl
after_accepted before step (refused r) e = let z : ◌≡◌ {A = ℕ} 0 1 = cc in absurd (omega arith)

-- and after one that was
after_refused : (step : Step) (m : Got ℕ) (r : Refusal) → answered m ≡ Err r → onward m (λ end last. got step last) ≡ refused r
after_refused step (got end next) r e = let z : ◌≡◌ {A = ℕ} 0 1 = cc in absurd (omega arith)
after_refused step (refused q) r e = cc

module _ (time : ℕ) (s : List ℕ) (told : List Report) (at : ℕ) where
  -- the end of a step as one reading
  closing_first : after_reports time s told at ≡ onward (closing s at) (λ end last. got (record { time = time; reports = told }) last)
  closing_first =
      sym
      (onward_onward (padding Refusal.StepCut Refusal.StepPadding s at) (λ zeros next. ended Refusal.StepLeftOver s next) (λ end last. got _ last))

  -- a step that ends as it should is taken
  pub closed_accepted : (before : List Truth) → closed s at ≡ Ok tt
      → taken_of before (after_reports time s told at) ≡ taken_of before (got (record { time = time; reports = told }) 0)
  unfolding closed
  closed_accepted before e = ap (taken_of before) closing_first ∙ after_accepted before _ (closing s at) e

  -- any other is refused
  pub closed_refused : (r : Refusal) → closed s at ≡ Err r → after_reports time s told at ≡ refused r
  unfolding closed
  closed_refused r e = closing_first ∙ after_refused _ (closing s at) r e

module _ (t : Table) (earliest : ℕ) (s : List ℕ) where
  -- the time isn't wholly there
  pub time_cut : field_at s 0 47 ≡ None → read_step t earliest s 0 ≡ refused Refusal.StepCut
  unfolding read_step
  time_cut cut = rw cut

  module _ (time : ℕ) (there : field_at s 0 47 ≡ Some time) (late : earliest ≤ time) where
    -- the report count isn't wholly there
    pub count_cut : field_at s 47 6 ≡ None → read_step t earliest s 0 ≡ refused Refusal.StepCut
    unfolding read_step
    count_cut cut = rw (there, le-leb earliest time late, cut)

    -- the reports decide
    pub on_count : (count : ℕ) → field_at s 47 6 ≡ Some count → read_step t earliest s 0 ≡ after_count t time count s
    unfolding read_step
    on_count count found = rw (there, le-leb earliest time late, found)
