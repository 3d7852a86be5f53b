-- A table of which only the imports are lent: a step reads the same by it as by the whole table.
use Rattle.std.specs.Prelude.{Bool, true, false, ◌≡◌, eqb, leb, get_or, Ok, Err, Some, None, Option, ℕ}
use mathlib.Core.List.{List, [], ◌∷◌, ◌++◌}
use Rattle.std.proofs.Math.Path.{refl, sym, ap}
use Rattle.std.proofs.Common.{◌∙◌, arith}
use Prim.Native.Nat.{ℕ, zero, suc, ◌+◌, ◌<◌}
use Rattle.refusals.specs.declared.Refusal.{Refusal}
use Rattle.refusals.specs.Answers.{Answer}
use Rattle.refusals.specs.Numbering.{unless}
use Rattle.bits.specs.Bits.{field_at, list_to}
use Rattle.bits.specs.Lists.{get_d_list}
use Rattle.bits.specs.Fields.{there_lt}
use Rattle.bits.specs.Reading.{Got, onward, judged, taken, field, whatever}
use Rattle.table.specs.declared.Table.{Table}
use Rattle.table.specs.Tables.{is_event}
use Rattle.step.specs.Steps.{Report}
use Rattle.step.specs.Reader.{import_fault, report_for, reports, read_step}
use Rattle.step.specs.Hearing.{about, next_report, reports_next}
use Rattle.step.specs.Stages.{after_reports}
use Rattle.words.specs.Words.{event_word}
use Rattle.hearing.specs.Hearing.{event_words}

-- as many imports, of which those with the word 1 are events, and nothing else
abbrev pub lent : ℕ → List ℕ → Table
lent q events = record { n = 0; q = q; v = 0; events = list_to 64 (λ i. eqb (get_or events i 0) 1); variables = []; entries = [] }

-- an import of 6 bits is an event if its word is 1
pub lent_event : (q : ℕ) (events : List ℕ) (i : ℕ) → i < 64 → is_event (lent q events) i ≡ eqb (get_or events i 0) 1
unfolding is_event
lent_event q events i h = get_d_list 64 (λ j. eqb (get_or events j 0) 1) i false h

-- the word of a sort says the sort
event_word_lem : (b : Bool) → eqb (event_word b) 1 ≡ b
event_word_lem true = refl
event_word_lem false = refl

-- two ways to go on that are the same for a number at hand, which is judged first
same_judged : {B : Type 0} (answer : Answer) (v next : ℕ) (f g : ℕ → ℕ → Got B) → f v next ≡ g v next
    → onward (judged answer v next) f ≡ onward (judged answer v next) g
same_judged (Ok _) v next f g same = same
same_judged (Err r) v next f g same = refl

-- and for a field's answer
same_taken : {B : Type 0} (cut : Refusal) (judge : ℕ → Answer) (next : ℕ) (there : Option ℕ) (f g : ℕ → ℕ → Got B)
    → ((v : ℕ) → there ≡ Some v → f v next ≡ g v next) → onward (taken cut judge next there) f ≡ onward (taken cut judge next there) g
same_taken cut judge next None f g same = refl
same_taken cut judge next (Some v) f g same = same_judged (judge v) v next f g (same v refl)

module _ (t : Table) (events : List ℕ) (are : events ≡ event_words t) where
  -- an import of 6 bits is an event of the one if it is one of the other
  event_same : (i : ℕ) → i < 64 → is_event (lent t.q events) i ≡ is_event t i
  event_same i h =
      lent_event t.q events i h
      ∙ ap (λ (l : List ℕ). eqb (get_or l i 0) 1) are
      ∙ ap (λ (w : ℕ). eqb w 1) (get_d_list 64 (λ j. event_word (is_event t j)) i 0 h)
      ∙ event_word_lem (is_event t i)

  -- the next report is the same
  next_same : (least : ℕ) (s : List ℕ) (at : ℕ) → next_report (lent t.q events) least s at ≡ next_report t least s at
  unfolding next_report import_fault
  next_same least s at =
      same_taken Refusal.StepCut (import_fault t least) (at + 6) (field_at s at 6)
      (λ i next. about i (report_for (is_event (lent t.q events) i) s next))
      (λ i next. about i (report_for (is_event t i) s next))
      (λ i there. ap (λ (b : Bool). about i (report_for b s (at + 6))) (event_same i (omega (arith, there_lt s at 6 i there))))

  -- all of them are
  reports_same : (left least : ℕ) (sofar : List Report) (s : List ℕ) (at : ℕ)
      → reports (lent t.q events) left least sofar s at ≡ reports t left least sofar s at
  unfolding reports
  reports_same zero least sofar s at = refl
  reports_same (suc left) least sofar s at =
      reports_next (lent t.q events) left least sofar s at
      ∙ (λ j. onward (next_same least s at j) (λ r next. reports_same left (suc r.imported) (sofar ++ (r ∷ [])) s next j))
      ∙ sym (reports_next t left least sofar s at)

  -- and so is the whole step
  whole_same : (earliest : ℕ) (s : List ℕ) → read_step (lent t.q events) earliest s 0 ≡ read_step t earliest s 0
  unfolding read_step
  whole_same earliest s =
      λ j. onward (field Refusal.StepCut 47 (λ time. unless (leb earliest time) Refusal.Time) s 0) (λ time at.
      onward (field Refusal.StepCut 6 whatever s at) (λ count next.
      onward (reports_same count 0 [] s next j) (λ told last. after_reports time s told last)))

-- a step is read the same by what is lent of a table
pub step_same : (t : Table) (q : ℕ) (events : List ℕ) → t.q ≡ q → events ≡ event_words t → (earliest : ℕ) (s : List ℕ)
    → read_step (lent q events) earliest s 0 ≡ read_step t earliest s 0
step_same t q events counted are earliest s =
    ap (λ (n : ℕ). read_step (lent n events) earliest s 0) (sym counted) ∙ whole_same t events are earliest s
