-- The reports of a step, as far as they have been heard.
use mathlib.Core.List.{List, [], ◌∷◌, ◌++◌, append_assoc}
use Rattle.std.specs.Prelude.{◌≡◌, refl, ℕ, suc, ◌+◌, ◌-◌, ◌*◌, ◌<◌, ◌≤◌, replicate, Ok, Err}
use Rattle.std.proofs.Common.{sym, ◌∙◌, ap₂, arith, eq-eqb, ne_eqb}
use Rattle.std.proofs.Math.Path.{ap}
use Rattle.std.proofs.Math.Numerals.{add-one}
use Rattle.std.proofs.Math.ListN.{length, set}
use Rattle.std.proofs.Math.Seq.{set_out}
use Rattle.values.specs.declared.Truth.{Truth}
use Rattle.refusals.specs.declared.Refusal.{Refusal}
use Rattle.bits.specs.Lists.{length_list}
use Rattle.bits.specs.Reading.{Got, got, refused, onward}
use Rattle.table.specs.declared.Table.{Table}
use Rattle.table.specs.Limits.{limits}
use Rattle.step.specs.declared.Told.{Told}
use Rattle.step.specs.Steps.{Report, told_by}
use Rattle.step.specs.Reader.{reports}
use Rattle.step.specs.Taking.{truth_at, reported_now, told_slots, reported_after, taken_of}
use Rattle.step.specs.declared.Heard.{Heard}
use Rattle.step.specs.Hearing.{next_report, Reported, Rising, next_rising, reports_next}
use Rattle.step.specs.Stages.{after_reports, after_count, closed, closed_accepted, closed_refused}
use Rattle.step.specs.Telling.{told_none, reported_none, told_more, reported_more}

-- of `count` reports `left` are left, from bit `at` on, and the next one's import is `least` or above
pub record SoFar (t : Table) (count : ℕ) (before : List Truth) (s : List ℕ) (told : List Told) (reported : List Truth) (at least left : ℕ) : Type 0 where
  -- those that were heard
  pub heard : List Report
  -- a report takes 55 bits at most
  pub place : at + 55 * left ≤ 53 + 55 * count
  -- what is left decides
  pub rest : reports t count 0 [] s 53 ≡ reports t left least heard s at
  -- what they tell of each import
  pub tells : told ≡ told_slots heard
  -- the last reported values after them
  pub leaves : reported ≡ reported_after before heard
  -- of an import that may still come only the others tell
  pub rising : (i : ℕ) → least ≤ i → (others : List Report) → told_by (heard ++ others) i ≡ told_by others i

-- none is heard yet
pub heard_none : (t : Table) (count : ℕ) (before : List Truth) (s : List ℕ) → length before ≡ limits.imports → {left : ℕ} → left ≡ count
    → SoFar t count before s (replicate limits.imports Told.Nothing) before 53 0 left
heard_none t count before s full all =
    record {
      heard = [];
      place = omega arith;
      rest = rw all refl;
      tells = sym told_none;
      leaves = sym (reported_none before full);
      rising = λ i h others. refl;
    }

module _ {t : Table} {count : ℕ} {before : List Truth} {s : List ℕ} {told : List Told} {reported : List Truth} {at least left : ℕ}
    (sofar : SoFar t count before s told reported at least left) where
  module _ (time : ℕ) (none : left ≤ 0) where
    -- no report is left: the end decides
    on_end : after_count t time count s ≡ after_reports time s sofar.heard at
    unfolding reports
    on_end =
        ap (λ (m : Got (List Report)). onward m (after_reports time s))
        (sofar.rest ∙ ap (λ (n : ℕ). reports t n least sofar.heard s at) {x = left} {y = 0} (omega arith))

    -- it isn't as it should be
    pub end_refused : (r : Refusal) → closed s at ≡ Err r → after_count t time count s ≡ refused r
    end_refused r e = on_end ∙ closed_refused time s sofar.heard at r e

    -- it is
    pub end_accepted : closed s at ≡ Ok tt
        → taken_of before (after_count t time count s) ≡ record { answer = Ok tt; time = time; told = told; reported = reported }
    end_accepted e =
        ap (taken_of before) on_end
        ∙ closed_accepted time s sofar.heard at before e
        ∙ ap₂ (λ (x : List Told) (y : List Truth). record { answer = Ok tt; time = time; told = x; reported = y })
        (sym sofar.tells) (sym sofar.leaves)

  module _ (more : 0 < left) where
    -- the next report decides
    on_next : reports t count 0 [] s 53
        ≡ onward (next_report t least s at) (λ r next. reports t (left - 1) (suc r.imported) (sofar.heard ++ (r ∷ [])) s next)
    on_next =
        sofar.rest
        ∙ ap (λ (n : ℕ). reports t n least sofar.heard s at) {x = left} {y = suc (left - 1)} (omega arith)
        ∙ reports_next t (left - 1) least sofar.heard s at

    -- it is refused
    pub next_stops : (time : ℕ) (r : Refusal) → next_report t least s at ≡ refused r → after_count t time count s ≡ refused r
    next_stops time r e = ap (λ (m : Got (List Report)). onward m (after_reports time s)) {y = refused r} (on_next ∙ rw e)

    module _ (r : Report) (next : ℕ) (e : next_report t least s at ≡ got r next) where
      -- one report more
      pub one_more : SoFar t count before s (set told r.imported r.told)
          (set reported r.imported (reported_now r.told (truth_at before r.imported))) next (r.imported + 1) (left - 1)
      unfolding told_by
      one_more =
          let is : Rising t least at r next = (next_rising t least s at).told r next e in
          let first : told_by (sofar.heard ++ (r ∷ [])) r.imported ≡ r.told =
          sofar.rising r.imported is.late (r ∷ []) ∙ rw (eq-eqb r.imported r.imported refl) in
          record {
            heard = sofar.heard ++ (r ∷ []);
            place = omega (arith, sofar.place);
            rest = on_next ∙ rw (e, add-one r.imported);
            tells = ap (λ (x : List Told). set x r.imported r.told) sofar.tells ∙ told_more sofar.heard r first;
            leaves =
                ap (λ (x : List Truth). set x r.imported (reported_now r.told (truth_at before r.imported))) sofar.leaves
                ∙ reported_more sofar.heard r first before;
            rising =
                λ i h others.
                ap (λ (rs : List Report). told_by rs i) (append_assoc sofar.heard (r ∷ []) others)
                ∙ sofar.rising i (omega arith) (r ∷ others)
                ∙ rw (ne_eqb r.imported i (λ same. omega arith));
          }

    module _ {h : Heard Told} (told-is : Reported (λ told. told) (next_report t least s at) h)
        {told' : List Told} {reported' : List Truth} {at' least' left' : ℕ}
        (ends : at' ≡ h.next) (above : least' ≡ h.imported + 1) (fewer : left' ≡ left - 1) where
      -- stored in its slots
      pub next_stored : {now : Truth} → told' ≡ set told h.imported h.told
          → reported' ≡ set reported h.imported now → now ≡ reported_now h.told (truth_at before h.imported)
          → SoFar t count before s told' reported' at' least' left'
      next_stored tells leaves is =
          rw (tells, leaves, is, ends, above, fewer, ← told-is.imports, ← told-is.tells) (one_more told-is.report h.next told-is.is)

      -- past the slots nothing is stored
      pub next_past : limits.imports ≤ h.imported → told' ≡ told → reported' ≡ reported → SoFar t count before s told' reported' at' least' left'
      unfolding told_slots reported_after
      next_past past tells leaves =
          let long : length told ≡ limits.imports = ap length sofar.tells ∙ length_list limits.imports _ in
          let wide : length reported ≡ limits.imports = ap length sofar.leaves ∙ length_list limits.imports _ in
          let r = told-is.report in
          let far : limits.imports ≤ r.imported = omega (arith, told-is.imports) in
          rw (tells, leaves, ends, above, fewer, ← told-is.imports)
          (rw (set_out told r.imported _ (omega arith), set_out reported r.imported _ (omega arith)) at (one_more r h.next told-is.is))
