-- Laws of what a start and a step answer, from what their parts were found to be.
use Rattle.std.specs.Prelude.{List, ◌≡◌, refl, ℕ, ◌<◌, ◌^◌, Ok, Err}
use Rattle.std.proofs.Math.Path.{sym, ap}
use Rattle.std.proofs.Common.{◌∙◌, arith}
use Rattle.refusals.specs.declared.Refusal.{Refusal}
use Rattle.refusals.specs.Answers.{Answer}
use Rattle.bits.specs.Reading.{Got, got, refused}
use Rattle.table.specs.declared.Table.{Table}
use Rattle.table.specs.Tables.{empty_table}
use Rattle.table.specs.Faults.{table_fault, unsound_table}
use Rattle.values.specs.declared.Truth.{Truth}
use Rattle.step.specs.declared.Taken.{Taken}
use Rattle.step.specs.Steps.{Step}
use Rattle.step.specs.Reader.{read_step}
use Rattle.step.specs.Taking.{taken_of}
use Rattle.step.specs.Laws.{step_time}
use Rattle.monitor.specs.declared.Monitor.{Monitor}
use Rattle.monitor.specs.declared.Stepped.{Stepped}
use Rattle.monitor.specs.Keeping.{unsound, fresh, start_on}
use Rattle.monitor.specs.Stepping.{advanced, refused_step, step_reply, taken_by, sound_step, step_of}

module _ (t : Table) (found : Answer) (judged : found ≡ table_fault t) (m : Monitor) where
  -- "A start on any other table gives a monitor that holds that table and no accepted step yet"
  pub start_sound : found ≡ Ok tt → m ≡ fresh t → record { answer = Ok tt; monitor = m } ≡ start_on t
  unfolding start_on unsound_table
  start_sound good is = rw (sym judged ∙ good, is)

  -- "A start on a table at fault gives 29 and the monitor of the empty table"
  pub start_unsound : (r : Refusal) (empty : Table) → found ≡ Err r → empty ≡ empty_table → m ≡ fresh empty
      → record { answer = Err Refusal.Unsound; monitor = m } ≡ start_on t
  unfolding start_on unsound_table
  start_unsound r empty bad none is = rw (sym judged ∙ bad, is, none)

-- the time that is taken is that of the step that was read, and 0 where none was
time_taken : (before : List Truth) (read : Got Step) → ((s : Step) (end : ℕ) → read ≡ got s end → s.time < 2 ^ 47) → (taken_of before read).time < 2 ^ 47
time_taken before (got s end) fits = fits s end refl
time_taken before (refused r) fits = omega arith

-- "Times are milliseconds, 0 to 2^47−1": so is the time that a monitor takes
pub taken_time : (m : Monitor) (bytes : List ℕ) (s : Taken) → s ≡ taken_by m bytes → s.time < 2 ^ 47
unfolding taken_by
taken_time m bytes s read = rw read (time_taken m.reported (read_step m.table m.last bytes 0) (step_time m.table m.last bytes))

module _ (m : Monitor) (found : Answer) (judged : found ≡ unsound m) (bytes : List ℕ) (reply : Stepped) where
  -- "29 before all else in a step"
  pub step_unsound : (r : Refusal) → found ≡ Err r → reply ≡ refused_step r m → reply ≡ step_of m bytes
  unfolding step_of
  step_unsound r bad is = is ∙ sym (ap (λ (a : Answer). sound_step a m bytes) (sym judged ∙ bad))

  module _ (good : found ≡ Ok tt) (s : Taken) (read : s ≡ taken_by m bytes) where
    -- a monitor without fault answers by what was read
    pub step_sound : step_reply s.answer m s ≡ step_of m bytes
    unfolding step_of
    step_sound = rw (sym judged ∙ good, read)

    -- a refused step
    pub step_refused : (r : Refusal) → s.answer ≡ Err r → reply ≡ refused_step r m → reply ≡ step_of m bytes
    step_refused r answered is = is ∙ ap (λ (a : Answer). step_reply a m s) (sym answered) ∙ step_sound

    -- an accepted one
    pub step_accepted : s.answer ≡ Ok tt → reply ≡ advanced m s → reply ≡ step_of m bytes
    step_accepted answered is = is ∙ ap (λ (a : Answer). step_reply a m s) (sym answered) ∙ step_sound
