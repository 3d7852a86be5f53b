-- What is taken from a step: its time, what it tells of each import, and the last reported values after it.
use Rattle.std.specs.Prelude.{List, ℕ, get_or, replicate, Result, Ok, Err}
use Rattle.values.specs.declared.Truth.{Truth}
use Rattle.refusals.specs.declared.Refusal.{Refusal}
use Rattle.bits.specs.Bits.{list_to}
use Rattle.bits.specs.Reading.{Got, got, refused}
use Rattle.table.specs.Limits.{limits}
use Rattle.step.specs.declared.Told.{Told}
use Rattle.step.specs.declared.Taken.{Taken}
use Rattle.step.specs.Steps.{Report, Step, told_by}

-- what was told of an import
abbrev pub told_at : List Told → ℕ → Told
told_at slots i = get_or slots i Told.Nothing

-- the last reported value of an import
abbrev pub truth_at : List Truth → ℕ → Truth
truth_at slots i = get_or slots i Truth.Undefined

-- this step's report of a condition, else what was reported before
abbrev pub reported_now : Told → Truth → Truth
reported_now Told.Nothing before = before
reported_now (Told.Condition c) before = c
reported_now (Told.Event x) before = before

-- what reports tell of each import
unfoldable pub told_slots : List Report → List Told
told_slots reports = list_to limits.imports (λ i. (told_by reports i))

-- the last reported value of each import, after these reports
unfoldable pub reported_after : List Truth → List Report → List Truth
reported_after before reports = list_to limits.imports (λ i. (reported_now (told_by reports i) (truth_at before i)))

-- a step that was read, or the refusal with nothing told and the reported values as they were
abbrev pub taken_of : List Truth → Got Step → Taken
taken_of before (got s end) =
    record {
      answer = Ok tt;
      time = s.time;
      told = told_slots s.reports;
      reported = reported_after before s.reports;
    }
taken_of before (refused r) =
    record {
      answer = Err r;
      time = 0;
      told = replicate limits.imports Told.Nothing;
      reported = before;
    }

-- the same of what was taken, or of the refusal
abbrev pub taken_from : List Truth → Result Taken Refusal → Taken
taken_from before (Ok taken) = taken
taken_from before (Err r) = taken_of before (refused r)
