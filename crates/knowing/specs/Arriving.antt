-- What arrives is in range: a step that can be read, and so the history of the steps that were accepted.
use Rattle.std.specs.Prelude.{Bool, true, false, cond, List, [], ◌∷◌, ◌++◌, ◌≡◌, refl, ℕ, zero, suc, ◌+◌, eqb}
use Rattle.std.proofs.Common.{arith}
use Rattle.values.specs.Numbers.{fits_n}
use Rattle.refusals.specs.declared.Refusal.{Refusal}
use Rattle.bits.specs.Fields.{there_lt}
use Rattle.bits.specs.Reading.{Got, got, refused, whatever}
use Rattle.bits.specs.Giving.{Gives, gives_value, gives_onward, gives_field, gives_ended}
use Rattle.roundtrip.specs.ReadNumbers.{signed_in_range}
use Rattle.table.specs.declared.Table.{Table}
use Rattle.table.specs.Tables.{is_event}
use Rattle.step.specs.declared.Told.{Told}
use Rattle.step.specs.Steps.{Report, Step, told_by, value_in}
use Rattle.step.specs.Reader.{condition_report, event_value, event_report, report_for, import_fault, reports, read_step}
use Rattle.history.specs.History.{History}
use Rattle.history.specs.Offered.{earliest, offered, grown, history_of}
use Rattle.knowing.specs.Fitting.{StepFits, HistoryFits}

-- what is told comes with no value, or with one in range
abbrev ToldFits : Told → Type 0
ToldFits told = fits_n (value_in told) ≡ true

-- and so of every import
abbrev ReportsFit : List Report → Type 0
ReportsFit rs = (i : ℕ) → ToldFits (told_by rs i)

-- "a 48-bit value": it is in range, whatever the bits
value_fits : (b : Bool) (s : List ℕ) (at : ℕ) → Gives (event_value b s at) (λ told next. ToldFits told)
value_fits true s at = gives_field s at 48 Refusal.StepCut whatever _ (λ v there good. gives_value (signed_in_range v (there_lt s at 48 v there)))
value_fits false s at = gives_value refl

-- one report, of an event or of a condition
report_fits : (event : Bool) (s : List ℕ) (at : ℕ) → Gives (report_for event s at) (λ told next. ToldFits told)
unfolding condition_report event_report
report_fits true s at = gives_field s at 1 Refusal.StepCut whatever _ (λ bit there good. value_fits (eqb bit 1) s (at + 1))
report_fits false s at = gives_field s at 2 Refusal.StepCut _ _ (λ c there good. gives_value refl)

-- one report more
told_more : (rs : List Report) (r : Report) (i : ℕ) → ToldFits (told_by rs i) → ToldFits r.told → ToldFits (told_by (rs ++ (r ∷ [])) i)
unfolding told_by
told_more [] r i fits here = elim (eqb r.imported i) as (λ b. ToldFits (cond b r.told Told.Nothing)) [ true ↦ here | false ↦ refl ]
told_more (x ∷ rs) r i fits here =
    elim (eqb x.imported i) as (λ b. ToldFits (cond b x.told (told_by rs i)) → ToldFits (cond b x.told (told_by (rs ++ (r ∷ [])) i)))
    [ true ↦ λ p. p | false ↦ λ p. told_more rs r i p here ]
    fits

-- all the reports of a step
reports_fit : (t : Table) (left least : ℕ) (sofar : List Report) (s : List ℕ) (at : ℕ) → ReportsFit sofar
    → Gives (reports t left least sofar s at) (λ rs next. ReportsFit rs)
unfolding reports
reports_fit t zero least sofar s at fits = gives_value fits
reports_fit t (suc left) least sofar s at fits =
    gives_field s at 6 Refusal.StepCut (import_fault t least) _
    (λ i there good. gives_onward
    (λ told next e. reports_fit t left (suc i) (sofar ++ (record { imported = i; told = told } ∷ [])) s next
    (λ j. told_more sofar (record { imported = i; told = told }) j (fits j) ((report_fits (is_event t i) s (at + 6)).told told next e))))

-- "Time, 47 bits", and values of 48: a step that is read is in range
pub read_fits : (t : Table) (least : ℕ) (s : List ℕ) → Gives (read_step t least s 0) (λ step next. StepFits step)
unfolding read_step told_by
read_fits t least s =
    gives_field s 0 47 Refusal.StepCut _ _
    (λ time there good. gives_field s 47 6 Refusal.StepCut whatever _
    (λ count counted fine. gives_onward
    (λ told next e. gives_field s next _ Refusal.StepCut _ _
    (λ zeros padded none. gives_ended s _ Refusal.StepLeftOver _
    (λ end. gives_value (record { time = omega (arith, there_lt s 0 47 time there); values = (reports_fit t count 0 [] s 53 (λ i. refl)).told told next e }))))))

-- a step that is accepted joins the others, a refused one does not
grown_fits : (h : History) (m : Got Step) → HistoryFits h → Gives m (λ step next. StepFits step) → HistoryFits (grown h m)
grown_fits h (got s next) fits read = (read.told s next refl, fits)
grown_fits h (refused r) fits read = fits

-- whatever is offered, the history is in range
pub history_fits : (t : Table) (strings : List (List ℕ)) → HistoryFits (history_of t strings)
unfolding history_of offered
history_fits t [] = tt
history_fits t (bytes ∷ before) =
    let h = history_of t before in
    grown_fits h (offered t h bytes) (history_fits t before) (read_fits t (earliest h) bytes)
