-- What is known of every accepted step: its time, and how long it is.
use Rattle.std.specs.Prelude.{List, [], ◌∷◌, ◌++◌, ◌≡◌, ℕ, zero, suc, ◌+◌, ◌-◌, ◌*◌, ◌^◌, ◌<◌, ◌≤◌, leb, eqb, length}
use Rattle.std.proofs.Common.{arith}
use Rattle.refusals.specs.declared.Refusal.{Refusal}
use Rattle.refusals.specs.Numbering.{unless}
use Rattle.bits.specs.Bits.{padding_at}
use Rattle.bits.specs.Fields.{there_lt}
use Rattle.bits.specs.Reading.{got, whatever}
use Rattle.bits.specs.Giving.{Gives, gives_value, gives_also, gives_onward, gives_field, gives_ended}
use Rattle.table.specs.declared.Table.{Table}
use Rattle.table.specs.Limits.{limits}
use Rattle.step.specs.Steps.{Report, Step}
use Rattle.step.specs.Reader.{reports, read_step}
use Rattle.step.specs.Hearing.{next_report, Rising, next_rising, reports_next}
use Rattle.step.specs.Stages.{after_reports}

-- no import is reported twice: the reports take 55 bits at most for each import from `least` on
reports_end : (t : Table) (left least : ℕ) (sofar : List Report) (s : List ℕ) (at : ℕ)
    → Gives (reports t left least sofar s at) (λ told next. next ≤ at + 55 * (t.q - least))
unfolding reports
reports_end t zero least sofar s at = gives_value (omega arith)
reports_end t (suc left) least sofar s at =
    rw (reports_next t left least sofar s at)
    (gives_onward {m = next_report t least s at} λ r next e.
    let is : Rising t least at r next = (next_rising t least s at).told r next e in
    gives_also (reports_end t left (suc r.imported) (sofar ++ (r ∷ [])) s next) (λ told last h. omega arith))

-- the bytes end seven bits after the reports at most
closing_ends : (time : ℕ) (s : List ℕ) (told : List Report) (at : ℕ)
    → Gives (after_reports time s told at) (λ step last. (step.time ≡ time) × (8 * length s ≤ at + 7))
closing_ends time s told at =
    gives_field s at (padding_at at) Refusal.StepCut (λ v. unless (eqb v 0) Refusal.StepPadding) _ λ zeros there good.
    gives_ended s (at + padding_at at) Refusal.StepLeftOver _ λ end. gives_value (omega arith)

-- the time has 47 bits, and the reports end before the bytes do
step_ends : (t : Table) (earliest : ℕ) (s : List ℕ)
    → Gives (read_step t earliest s 0) (λ step last. (step.time < 2 ^ 47) × (8 * length s ≤ 53 + 55 * t.q + 7))
unfolding read_step
step_ends t earliest s =
    gives_field s 0 47 Refusal.StepCut (λ time. unless (leb earliest time) Refusal.Time) _ λ time there late.
    gives_field s 47 6 Refusal.StepCut whatever _ λ count found good.
    gives_onward {m = reports t count 0 [] s 53} λ told at e.
    gives_also (closing_ends time s told at)
    (λ step last h. (omega (arith, there_lt s 0 47 time there, h.0), omega (arith, h.1, (reports_end t count 0 [] s 53).told told at e)))

-- "Times are milliseconds, 0 to 2^47−1."
pub step_time : (t : Table) (earliest : ℕ) (s : List ℕ) (step : Step) (end : ℕ) → read_step t earliest s 0 ≡ got step end → step.time < 2 ^ 47
step_time t earliest s step end e = ((step_ends t earliest s).told step end e).0

-- "a step at most 337 bytes"
pub step_length : (t : Table) (earliest : ℕ) (s : List ℕ) (step : Step) (end : ℕ) → t.q ≤ limits.imports → read_step t earliest s 0 ≡ got step end
    → length s ≤ limits.step
step_length t earliest s step end few e = omega (arith, ((step_ends t earliest s).told step end e).1)
