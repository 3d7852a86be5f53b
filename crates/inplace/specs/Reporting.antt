-- The last reported values, import by import: this step's report of a condition, else what was reported before.
use Rattle.std.specs.Prelude.{Bool, true, false, cond, ◌&&◌, ◌≡◌, ltb, ℤ}
use mathlib.Core.List.{List}
use Rattle.std.proofs.Math.Path.{refl, ap, ap₂}
use Rattle.std.proofs.Common.{sym, ◌∙◌, subst, add-one, arith, le-ltb, get_or-set_same, get_or-set_other}
use Prim.Native.Nat.{ℕ, zero, suc, ◌+◌, ◌<◌, ◌≤◌}
use Rattle.std.proofs.Math.Decide.{dec_lt, ℕ_discrete}
use Rattle.std.proofs.Math.ListN.{length, get_or, set, length-set}
use Rattle.values.specs.declared.Truth.{Truth}
use Rattle.values.specs.declared.Number.{Number}
use Rattle.values.specs.Numbers.{in_range}
use Rattle.bits.specs.Bits.{list_to}
use Rattle.bits.specs.Lists.{get_d_list}
use Rattle.bits.specs.Filled.{list_is}
use Rattle.table.specs.Limits.{limits}
use Rattle.step.specs.declared.Told.{Told}
use Rattle.step.specs.declared.Taken.{Taken}
use Rattle.step.specs.Taking.{told_at, truth_at, reported_now}
use Rattle.monitor.specs.declared.Monitor.{Monitor}
use Rattle.words.specs.Words.{shifted, undefined_word, truth_word, told_word}
use Rattle.words.specs.Layout.{Kept, state_of}
use Rattle.words.specs.Standing.{truth_there, truth_set}
use Rattle.words.specs.Again.{shifted_high}
use Rattle.hearing.specs.Hearing.{told_words}

-- the word of an import's last reported value
abbrev pub report_word : ℕ → ℕ → ℕ
report_word told before = cond (ltb 0 told && ltb told 4) told before

-- a number is no report of a condition
number_silent : (z : ℤ) (b : Bool) → in_range z ≡ b → (before : ℕ) → report_word (cond b (shifted z) undefined_word) before ≡ before
number_silent z true fits before =
    ap (λ (b : Bool). cond (ltb 0 (shifted z) && b) (shifted z) before) (le-ltb (shifted z) 4 (omega (arith, shifted_high z fits)))
    ∙ elim (ltb 0 (shifted z)) as (λ b. cond (b && false) (shifted z) before ≡ before) [ true ↦ refl | false ↦ refl ]
number_silent z false fits before = refl

-- what it is for each thing that can be told
pub report_now : (told : Told) (before : Truth) → report_word (told_word told) (truth_word before) ≡ truth_word (reported_now told before)
report_now Told.Nothing before = refl
report_now (Told.Condition Truth.Undefined) before = refl
report_now (Told.Condition Truth.False) before = refl
report_now (Told.Condition Truth.True) before = refl
report_now (Told.Event Number.Undefined) before = refl
report_now (Told.Event (Number.Whole z)) before = number_silent z (in_range z) refl (truth_word before)

-- the last reported values, once the first i imports are gone through
unfoldable pub reported_to : Monitor → Taken → ℕ → List Truth
reported_to m s zero = m.reported
reported_to m s (suc i) = set (reported_to m s i) i (reported_now (told_at s.told i) (truth_at m.reported i))

-- the monitor with these
abbrev pub reported_in : Monitor → List Truth → Monitor
reported_in m reported = record { table = m.table; last = m.last; reported = reported; held = m.held; cells = m.cells }

module _ (m : Monitor) (s : Taken) where
  -- they are as many as before
  pub length_reported : (i : ℕ) → length (reported_to m s i) ≡ length m.reported
  unfolding reported_to
  length_reported zero = refl
  length_reported (suc i) = length-set {A = Truth} (reported_to m s i) i (reported_now (told_at s.told i) (truth_at m.reported i)) ∙ length_reported i

  -- those that are still to come are as before
  reported_later : (i j : ℕ) → i ≤ j → truth_at (reported_to m s i) j ≡ truth_at m.reported j
  unfolding reported_to
  reported_later zero j h = refl
  reported_later (suc i) j h =
      ap (λ (slot : Truth). slot)
      (get_or-set_other {A = Truth} (reported_to m s i) i j (reported_now (told_at s.told i) (truth_at m.reported i))
      Truth.Undefined (λ same. omega arith))
      ∙ reported_later i j (omega arith)

  -- the others are this step's
  reported_first : (i j : ℕ) → i ≤ length m.reported → j < i → truth_at (reported_to m s i) j ≡ reported_now (told_at s.told j) (truth_at m.reported j)
  unfolding reported_to
  reported_first zero j fits h = absurd (omega arith)
  reported_first (suc i) j fits h =
      let new : Truth = (reported_now (told_at s.told i) (truth_at m.reported i)) in
      let none : Truth = Truth.Undefined in
      elim (ℕ_discrete j i) [
        | yes same ↦ rw same ((get_or-set_same (reported_to m s i) i new none (omega (arith, length_reported i))))
        | no other ↦ (get_or-set_other (reported_to m s i) i j new none other) ∙ reported_first i j (omega arith) (omega arith)
      ]

-- what a step says of a monitor's imports: its last reported values are these, and of an import that the table has not it says nothing
pub record Spoken (m : Monitor) (s : Taken) : Type 0 where
  pub reported : s.reported ≡ list_to limits.imports (λ i. (reported_now (told_at s.told i) (truth_at m.reported i)))
  pub silent : (i : ℕ) → m.table.q ≤ i → told_at s.told i ≡ Told.Nothing

-- once all imports are gone through, the last reported values are the step's
pub reported_all : (m : Monitor) (s : Taken) → Kept m → m.table.q ≤ limits.imports → Spoken m s → reported_to m s m.table.q ≡ s.reported
reported_all m s shape few spoken =
    list_is limits.imports (λ i. (reported_now (told_at s.told i) (truth_at m.reported i))) Truth.Undefined
    (reported_to m s m.table.q) (length_reported m s m.table.q ∙ shape.reported)
    (λ i h. λ j. (each i j))
    ∙ sym spoken.reported
  where
    each : (i : ℕ) → truth_at (reported_to m s m.table.q) i ≡ reported_now (told_at s.told i) (truth_at m.reported i)
    each i =
        elim (dec_lt i m.table.q) [
          | yes h ↦ reported_first m s m.table.q i (omega (arith, shape.reported)) h
          | no h ↦ reported_later m s m.table.q i (omega arith)
              ∙ ap (λ (told : Told). reported_now told (truth_at m.reported i)) (sym (spoken.silent i (omega arith)))
        ]

-- the words of a monitor, once the reports of its first q imports are kept
pub record Reported (told : List ℕ) (q : ℕ) (state later : List ℕ) : Type 0 where
  pub kept : (m : Monitor) (s : Taken) → Kept m → told ≡ told_words s.told → state ≡ state_of m → later ≡ state_of (reported_in m (reported_to m s q))

-- how far that has come; the words are as many as before
pub record Reporting (told : List ℕ) (q : ℕ) (state : List ℕ) (i : ℕ) (later : List ℕ) : Type 0 where
  pub within : i ≤ q
  pub words : length later ≡ length state
  pub sofar : Reported told i state later

module _ {told : List ℕ} {q : ℕ} {state : List ℕ} where
  -- none is kept yet
  pub reporting_none : Reporting told q state 0 state
  unfolding reported_to
  reporting_none = record { within = omega arith; words = refl; sofar = record { kept = λ m s shape heard words. words } }

  module _ {i : ℕ} {mid : List ℕ} (so : Reporting told q state i mid) where
    -- one import more
    pub reporting_more : {w : ℕ} {later : List ℕ} → i < q → q ≤ 48 → w ≡ report_word (get_or told i 0) (get_or mid (388 + i) 0) → later ≡ set mid (388 + i) w
        → Reporting told q state (i + 1) later
    unfolding reported_to
    reporting_more {w} {later} more few is stored =
        rw (add-one i)
        (record {
          within = omega arith;
          words = ap length stored ∙ length-set mid (388 + i) w ∙ so.words;
          sofar = record { kept = next };
        })
      where
        next : (m : Monitor) (s : Taken) → Kept m → told ≡ told_words s.told → state ≡ state_of m → later ≡ state_of (reported_in m (reported_to m s (suc i)))
        next m s shape heard words =
            let now = so.sofar.kept m s shape heard words in
            let c = reported_now (told_at s.told i) (truth_at m.reported i) in
            let here : get_or told i 0 ≡ told_word (told_at s.told i) = ap (λ (l : List ℕ). get_or l i 0) heard ∙ get_d_list 64 _ i 0 (omega arith) in
            let before : get_or mid (388 + i) 0 ≡ truth_word (truth_at m.reported i) =
            ap (λ (l : List ℕ). get_or l (388 + i) 0) now ∙ truth_there (reported_in m (reported_to m s i)) i (omega arith) ∙ ap truth_word (reported_later m s i i (omega arith)) in
            stored
            ∙ ap₂ (λ (l : List ℕ) (x : ℕ). set l (388 + i) x) now (is ∙ ap₂ report_word here before ∙ report_now (told_at s.told i) (truth_at m.reported i))
            ∙ truth_set (reported_in m (reported_to m s i))
            (record { table = shape.table; reported = length_reported m s i ∙ shape.reported; held = shape.held; cells = shape.cells }) i c (omega arith)

    -- all are kept
    pub reporting_all : q ≤ i → Reported told q state mid
    reporting_all none = subst (λ j. Reported told j state mid) {x = i} {y = q} (omega (arith, so.within)) so.sofar
