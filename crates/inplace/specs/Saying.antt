-- What a step that was read says of a monitor's imports, and that what it says is in range.
use Rattle.std.specs.Prelude.{true, false, cond, List, [], ◌∷◌, ◌++◌, ◌≡◌, refl, ℕ, zero, suc, ◌<◌, ◌≤◌, eqb, length, Ok}
use Rattle.std.proofs.Common.{sym, ◌∙◌, ap, arith, ne_eqb}
use Rattle.std.proofs.Math.Decide.{dec_lt}
use Rattle.std.proofs.Math.ListN.{get_or-eq_default}
use Rattle.values.specs.Numbers.{fits_n}
use Rattle.refusals.specs.declared.Refusal.{Refusal}
use Rattle.refusals.specs.Accepting.{not_accepted}
use Rattle.bits.specs.Bits.{list_to}
use Rattle.bits.specs.Lists.{length_list, get_d_list}
use Rattle.bits.specs.Filled.{list_same}
use Rattle.bits.specs.Reading.{Got, got, refused, whatever}
use Rattle.bits.specs.Giving.{Gives, gives_value, gives_field, gives_onward, gives_ended}
use Rattle.table.specs.declared.Table.{Table}
use Rattle.table.specs.Limits.{limits}
use Rattle.step.specs.declared.Told.{Told}
use Rattle.values.specs.declared.Truth.{Truth}
use Rattle.step.specs.Steps.{Report, Step, told_by, value_in}
use Rattle.step.specs.Reader.{read_step, reports}
use Rattle.step.specs.Taking.{told_at, truth_at, reported_now, told_slots, reported_after, taken_of}
use Rattle.step.specs.Hearing.{next_report, next_rising, reports_next}
use Rattle.monitor.specs.declared.Monitor.{Monitor}
use Rattle.monitor.specs.Stepping.{taken_by}
use Rattle.knowing.specs.Fitting.{StepFits}
use Rattle.knowing.specs.Arriving.{read_fits}
use Rattle.inplace.specs.Ranges.{TakenFits}
use Rattle.inplace.specs.Reporting.{Spoken}

-- reports that tell nothing of an import from q on
abbrev Below : ℕ → List Report → Type 0
Below q rs = (i : ℕ) → q ≤ i → told_by rs i ≡ Told.Nothing

-- one report more, of another import
silent_more : (rs : List Report) (r : Report) (i : ℕ) → (r.imported ≡ i → ⊥) → told_by rs i ≡ Told.Nothing → told_by (rs ++ (r ∷ [])) i ≡ Told.Nothing
unfolding told_by
silent_more [] r i other none = rw (ne_eqb r.imported i other) refl
silent_more (x ∷ rs) r i other none =
    elim (eqb x.imported i) as (λ b. cond b x.told (told_by rs i) ≡ Told.Nothing → cond b x.told (told_by (rs ++ (r ∷ [])) i) ≡ Told.Nothing)
    [ true ↦ λ told. told | false ↦ λ rest. silent_more rs r i other rest ]
    none

-- "23: import ≥ q": no report that is read is of such a one
reports_below : (t : Table) (left least : ℕ) (sofar : List Report) (s : List ℕ) (at : ℕ) → Below t.q sofar
    → Gives (reports t left least sofar s at) (λ rs next. Below t.q rs)
unfolding reports
reports_below t zero least sofar s at none = gives_value none
reports_below t (suc left) least sofar s at none =
    rw (reports_next t left least sofar s at)
    (gives_onward {m = next_report t least s at} λ r next e.
    reports_below t left (suc r.imported) (sofar ++ (r ∷ [])) s next (λ i past. silent_more sofar r i (λ same. omega (arith, ((next_rising t least s at).told r next e).known)) (none i past)))

-- nor of a whole step
step_below : (t : Table) (earliest : ℕ) (s : List ℕ) → Gives (read_step t earliest s 0) (λ step next. Below t.q step.reports)
unfolding read_step told_by
step_below t earliest s =
    gives_field s 0 47 Refusal.StepCut _ _
    (λ time there good. gives_field s 47 6 Refusal.StepCut whatever _
    (λ count counted fine. gives_onward
    (λ told next e. gives_field s next _ Refusal.StepCut _ _
    (λ zeros padded none. gives_ended s _ Refusal.StepLeftOver _
    (λ end. gives_value ((reports_below t count 0 [] s 53 (λ i h. refl)).told told next e))))))

-- the slots say of each import what the reports tell
told_slot : (rs : List Report) → (i : ℕ) → i < limits.imports → told_at (told_slots rs) i ≡ told_by rs i
unfolding told_slots
told_slot rs i h = get_d_list limits.imports _ i Told.Nothing h

-- past the slots nothing is told
told_past : (rs : List Report) (i : ℕ) → limits.imports ≤ i → told_at (told_slots rs) i ≡ Told.Nothing
unfolding told_slots
told_past rs i h =
    ap (λ (slot : Told). slot)
    (get_or-eq_default (told_slots rs) Told.Nothing (omega (arith, length_list {A = Told} limits.imports (λ j. (told_by rs j)))))

-- the last reported values after reports, by what their slots say
reported_by : (before : List Truth) (rs : List Report)
    → reported_after before rs ≡ list_to limits.imports (λ i. (reported_now (told_at (told_slots rs) i) (truth_at before i)))
unfolding reported_after
reported_by before rs =
    list_same limits.imports (λ i. (reported_now (told_by rs i) (truth_at before i)))
    (λ i. (reported_now (told_at (told_slots rs) i) (truth_at before i)))
    (λ i h. λ j. (reported_now (sym (told_slot rs i h) j) (truth_at before i)))

module _ (m : Monitor) where
  -- what a step that was read says of the imports
  spoken_by : (read : Got Step) → (taken_of m.reported read).answer ≡ Ok tt → Gives read (λ step next. Below m.table.q step.reports)
      → Spoken m (taken_of m.reported read)
  spoken_by (got step end) good low =
      record {
        reported = reported_by m.reported step.reports;
        silent = λ i past. elim (dec_lt i limits.imports) [
          | yes h ↦ told_slot step.reports i h ∙ low.told step end refl i past
          | no h ↦ told_past step.reports i (omega arith)
        ];
      }
  spoken_by (refused r) good low = not_accepted r good

  -- and that it is in range
  fits_by : (read : Got Step) → (taken_of m.reported read).answer ≡ Ok tt → Gives read (λ step next. StepFits step)
      → TakenFits (taken_of m.reported read)
  fits_by (got step end) good so =
      let fits = so.told step end refl in
      record {
        time = fits.time;
        values = λ i. elim (dec_lt i limits.imports) [
          | yes h ↦ ap (λ (told : Told). fits_n (value_in told)) (told_slot step.reports i h) ∙ fits.values i
          | no h ↦ ap (λ (told : Told). fits_n (value_in told)) (told_past step.reports i (omega arith))
        ];
        reported = ap length (reported_by m.reported step.reports) ∙ length_list limits.imports _;
      }
  fits_by (refused r) good so = not_accepted r good

  module _ (bytes : List ℕ) (accepted : (taken_by m bytes).answer ≡ Ok tt) where
    -- so it is with the step that a monitor takes
    pub taken_spoken : Spoken m (taken_by m bytes)
    unfolding taken_by
    taken_spoken = spoken_by (read_step m.table m.last bytes 0) accepted (step_below m.table m.last bytes)

    pub taken_fits : TakenFits (taken_by m bytes)
    unfolding taken_by
    taken_fits = fits_by (read_step m.table m.last bytes 0) accepted (read_fits m.table m.last bytes)
