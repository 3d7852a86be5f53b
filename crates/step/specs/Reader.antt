-- A step read from front to back: of a table it looks at the imports alone, and of what came before at the last time.
use Rattle.std.specs.Prelude.{Bool, true, false, cond, List, [], ◌∷◌, ◌++◌, ◌≡◌, ℕ, zero, suc, leb, ltb, eqb, Err, Some}
use Rattle.values.specs.declared.Truth.{Truth}
use Rattle.values.specs.declared.Number.{Number}
use Rattle.refusals.specs.declared.Refusal.{Refusal}
use Rattle.refusals.specs.Answers.{Answer}
use Rattle.refusals.specs.Numbering.{unless, and_then}
use Rattle.bits.specs.Bits.{field_at}
use Rattle.bits.specs.Twos.{signed}
use Rattle.bits.specs.Reading.{refused, Reading, give, ◌>>=◌, field, whatever, padding, ended, stops}
use Rattle.table.specs.declared.Table.{Table}
use Rattle.table.specs.Tables.{is_event}
use Rattle.step.specs.declared.Told.{Told}
use Rattle.step.specs.Steps.{Report, Step}

-- "for a condition 2 bits (00 false, 01 true, 10 undefined)"
abbrev pub truth_code : ℕ → Truth
truth_code c = cond (eqb c 0) Truth.False (cond (eqb c 1) Truth.True Truth.Undefined)

-- "25: condition report 11"
unfoldable pub condition_report : Reading Told
condition_report = field Refusal.StepCut 2 (λ c. unless (ltb c 3) Refusal.ConditionReport) >>= λ c. give (Told.Condition (truth_code c))

-- the 48-bit value of an event, where the bit before it is 1
abbrev pub event_value : Bool → Reading Told
event_value true = field Refusal.StepCut 48 whatever >>= λ v. give (Told.Event (Number.Whole (signed v)))
event_value false = give (Told.Event Number.Undefined)

-- "for an event 1 bit and, if that is 1, a 48-bit value"
unfoldable pub event_report : Reading Told
event_report = field Refusal.StepCut 1 whatever >>= λ bit. event_value (eqb bit 1)

-- what follows the import number, for an event and for a condition
abbrev pub report_for : Bool → Reading Told
report_for true = event_report
report_for false = condition_report

-- "23: import ≥ q", "24: import not above the one before it in this step"; "23 before 24"
-- `least` is the least import number that may come next
unfoldable pub import_fault : Table → ℕ → ℕ → Answer
import_fault t least i = and_then (unless (ltb i t.q) Refusal.StepImport) (unless (leb least i) Refusal.ImportOrder)

-- "the reports, import numbers strictly rising"
unfoldable pub reports : Table → ℕ → ℕ → List Report → Reading (List Report)
reports t zero least sofar = give sofar
reports t (suc left) least sofar = do
  i ← field Refusal.StepCut 6 (import_fault t least)
  told ← report_for (is_event t i)
  reports t left (suc i) (sofar ++ (record { imported = i; told = told } ∷ []))

-- "Time, 47 bits; report count, 6 bits; then the reports ... Zero bits up to a whole byte end it."
-- `earliest` is the earliest time that may come: one more than the last accepted step's, 0 before any
unfoldable pub read_step : Table → ℕ → Reading Step
read_step t earliest = do
  time ← field Refusal.StepCut 47 (λ time. unless (leb earliest time) Refusal.Time)
  count ← field Refusal.StepCut 6 whatever
  told ← reports t count 0 []
  zeros ← padding Refusal.StepCut Refusal.StepPadding
  end ← ended Refusal.StepLeftOver
  give (record { time = time; reports = told })

-- names all that a step is read with: an example says `unfolding the_step`
unfoldable pub the_step : Unit {0}
unfolding condition_report event_report import_fault reports read_step
the_step = tt

-- "23 before 24", whatever came before
pub import_before_order : (t : Table) (least i : ℕ) → ltb i t.q ≡ false → import_fault t least i ≡ Err Refusal.StepImport
unfolding import_fault
import_before_order t least i none = rw none

-- 22 is judged as soon as the 47 bits of time are there, whatever follows
pub time_first : (t : Table) (earliest time : ℕ) (s : List ℕ) → field_at s 0 47 ≡ Some time → leb earliest time ≡ false
    → read_step t earliest s 0 ≡ refused Refusal.Time
unfolding read_step
time_first t earliest time s there early = rw there (stops (leb earliest time) Refusal.Time time 47 _ early)
