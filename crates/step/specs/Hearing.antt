-- One report of a step: what it is handed back as, what is known of it, and that the reports are one after another.
use Rattle.std.specs.Prelude.{Bool, true, false, List, [], ◌∷◌, ◌++◌, ◌≡◌, refl, ℕ, suc, ◌+◌, ◌<◌, ◌≤◌, eqb, ltb, leb, Result, Ok, Err, Option, Some, None}
use Rattle.std.proofs.Common.{sym, ap, arith, ltb-true, leb-true}
use Rattle.refusals.specs.declared.Refusal.{Refusal}
use Rattle.refusals.specs.Answers.{Answer}
use Rattle.refusals.specs.Numbering.{unless}
use Rattle.refusals.specs.Accepting.{unless_accepted, accepted_first, accepted_second}
use Rattle.bits.specs.Bits.{field_at}
use Rattle.bits.specs.Fields.{there_lt}
use Rattle.bits.specs.Reading.{Got, got, refused, onward, onward_onward, judged, taken, Reading, ◌>>=◌, field, whatever}
use Rattle.bits.specs.Giving.{Gives, gives_value, gives_also, gives_onward, gives_field}
use Rattle.table.specs.declared.Table.{Table}
use Rattle.table.specs.Tables.{is_event}
use Rattle.step.specs.declared.Told.{Told}
use Rattle.step.specs.declared.Heard.{Heard}
use Rattle.step.specs.Steps.{Report}
use Rattle.step.specs.Reader.{condition_report, event_value, event_report, report_for, import_fault, reports}

-- what is told, told of import i
abbrev pub about : ℕ → Got Told → Got Report
about i m = onward m (λ told next. got (record { imported = i; told = told }) next)

-- "A report is the import (6 bits), then ...": the next one of a step
unfoldable pub next_report : Table → ℕ → Reading Report
next_report t least = field Refusal.StepCut 6 (import_fault t least) >>= λ i s at. about i (report_for (is_event t i) s at)

-- a number that was read, as it is handed back
abbrev pub value_of : Got ℕ → Result ℕ Refusal
value_of (got v next) = Ok v
value_of (refused r) = Err r

-- a report that was read, as it is handed back: what is told has a form of its own
abbrev pub heard_of : {T : Type 0} → (Told → T) → Got Report → Result (Heard T) Refusal
heard_of form (got r next) = Ok (record { imported = r.imported; told = form r.told; next = next })
heard_of form (refused r) = Err r

-- the refusal that was handed back
pub heard_refused : {T : Type 0} (form : Told → T) (m : Got Report) (r : Refusal) → heard_of form m ≡ Err r → m ≡ refused r
heard_refused form (got report next) r e = let z : ◌≡◌ {A = ℕ} 0 1 = cc in absurd (omega arith)
heard_refused form (refused q) r e = cc

-- a report that was read, with the import, what is told in its form, and the bit after it that were handed back
pub record Reported {T : Type 0} (form : Told → T) (m : Got Report) (h : Heard T) : Type 0 where
  pub report : Report
  pub is : m ≡ got report h.next
  pub imports : report.imported ≡ h.imported
  pub tells : form report.told ≡ h.told

-- the report that was handed back
pub heard_report : {T : Type 0} (form : Told → T) (m : Got Report) (h : Heard T) → heard_of form m ≡ Ok h → Reported form m h
heard_report {T} form (got r end) h e =
    let same : record { imported = r.imported; told = form r.told; next = end } ≡ h = cc in
    let ends : end ≡ h.next = ap (λ (x : Heard T). x.next) same in
    record { report = r; is = rw ends refl; imports = ap (λ (x : Heard T). x.imported) same; tells = ap (λ (x : Heard T). x.told) same }
heard_report form (refused q) h e = let z : ◌≡◌ {A = ℕ} 0 1 = cc in absurd (omega arith)

-- a value takes 48 bits, where there is one
value_ends : (b : Bool) (s : List ℕ) (at : ℕ) → Gives (event_value b s at) (λ told next. next ≤ at + 48)
value_ends true s at = gives_field s at 48 Refusal.StepCut whatever _ (λ v there good. gives_value (omega arith))
value_ends false s at = gives_value (omega arith)

-- after its import number a report takes 49 bits at most
report_ends : (event : Bool) (s : List ℕ) (at : ℕ) → Gives (report_for event s at) (λ told next. next ≤ at + 49)
unfolding event_report condition_report
report_ends true s at =
    gives_field s at 1 Refusal.StepCut whatever (λ bit next. event_value (eqb bit 1) s next)
    (λ bit there good. gives_also (value_ends (eqb bit 1) s (at + 1)) (λ told next h. omega arith))
report_ends false s at =
    gives_field s at 2 Refusal.StepCut (λ c. unless (ltb c 3) Refusal.ConditionReport) _ (λ c there good. gives_value (omega arith))

-- what is known of the next report: its import is there, rises and has 6 bits, and a report takes 55 bits at most
pub record Rising (t : Table) (least at : ℕ) (r : Report) (next : ℕ) : Type 0 where
  pub known : r.imported < t.q
  pub late : least ≤ r.imported
  pub narrow : r.imported < 64
  pub ends : next ≤ at + 55

-- so it is with every one that is read
pub next_rising : (t : Table) (least : ℕ) (s : List ℕ) (at : ℕ) → Gives (next_report t least s at) (Rising t least at)
unfolding next_report import_fault
next_rising t least s at =
    gives_field s at 6 Refusal.StepCut (import_fault t least) _ λ i there good.
    gives_onward {m = report_for (is_event t i) s (at + 6)} λ told next e.
    gives_value {next = next}
    (record {
      known = ltb-true i t.q (unless_accepted (ltb i t.q) Refusal.StepImport (accepted_first _ _ good));
      late = leb-true least i (unless_accepted (leb least i) Refusal.ImportOrder (accepted_second (unless (ltb i t.q) Refusal.StepImport) _ good));
      narrow = omega (arith, there_lt s at 6 i there);
      ends = omega (arith, (report_ends (is_event t i) s (at + 6)).told told next e);
    })

-- a number that was judged, handed back: it is the number, and it was read
value_judged : (answer : Answer) (v next i : ℕ) → value_of (judged answer v next) ≡ Ok i → (v ≡ i) × (judged answer v next ≡ got i next)
value_judged (Ok _) v next i e = (cc, cc)
value_judged (Err r) v next i e = let z : ◌≡◌ {A = ℕ} 0 1 = cc in absurd (omega arith)

-- the same of the number of a field
value_taken : (cut : Refusal) (judge : ℕ → Answer) (next : ℕ) (there : Option ℕ) (i : ℕ) → value_of (taken cut judge next there) ≡ Ok i
    → (there ≡ Some i) × (taken cut judge next there ≡ got i next)
value_taken cut judge next None i e = let z : ◌≡◌ {A = ℕ} 0 1 = cc in absurd (omega arith)
value_taken cut judge next (Some v) i e = let kept = value_judged (judge v) v next i e in (ap Some kept.0, kept.1)

-- a refusal, handed back
value_refused : (m : Got ℕ) (r : Refusal) → value_of m ≡ Err r → m ≡ refused r
value_refused (got v next) r e = let z : ◌≡◌ {A = ℕ} 0 1 = cc in absurd (omega arith)
value_refused (refused q) r e = cc

module _ (t : Table) (least : ℕ) (s : List ℕ) (at : ℕ) where
  -- the import number of the next report
  abbrev pub import_at : Result ℕ Refusal
  import_at = value_of (field Refusal.StepCut 6 (import_fault t least) s at)

  -- where it is refused, so is the report
  pub next_refused : (r : Refusal) → import_at ≡ Err r → next_report t least s at ≡ refused r
  unfolding next_report
  next_refused r e = rw (value_refused (field Refusal.StepCut 6 (import_fault t least) s at) r e)

  -- else it has 6 bits
  pub import_narrow : (i : ℕ) → import_at ≡ Ok i → i < 64
  import_narrow i e = omega (arith, there_lt s at 6 i (value_taken Refusal.StepCut (import_fault t least) (at + 6) (field_at s at 6) i e).0)

  -- and what follows it is told of it
  pub next_given : (i : ℕ) → import_at ≡ Ok i → next_report t least s at ≡ about i (report_for (is_event t i) s (at + 6))
  unfolding next_report
  next_given i e = rw (value_taken Refusal.StepCut (import_fault t least) (at + 6) (field_at s at 6) i e).1

-- a number, what is told of it, and what follows, taken together
together : {B : Type 0} (m : Got ℕ) (f : ℕ → ℕ → Got Told) (g : Report → ℕ → Got B)
    → onward m (λ i next. onward (f i next) (λ told last. g (record { imported = i; told = told }) last))
    ≡ onward (onward m (λ i next. about i (f i next))) g
together (got i next) f g = sym (onward_onward (f i next) (λ told last. got (record { imported = i; told = told }) last) g)
together (refused r) f g = refl

-- the next report, and then those that are left
pub reports_next : (t : Table) (left least : ℕ) (sofar : List Report) (s : List ℕ) (at : ℕ)
    → reports t (suc left) least sofar s at
    ≡ onward (next_report t least s at) (λ r next. reports t left (suc r.imported) (sofar ++ (r ∷ [])) s next)
unfolding reports next_report
reports_next t left least sofar s at =
    together (field Refusal.StepCut 6 (import_fault t least) s at) (λ i next. report_for (is_event t i) s next)
    (λ r next. reports t left (suc r.imported) (sofar ++ (r ∷ [])) s next)
