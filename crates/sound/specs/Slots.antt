-- Laws of a test at every slot: it holds where each slot from the number on passes, fails where one does not, and is the test of all of them.
use Rattle.std.specs.Prelude.{Bool, true, false, not, ◌&&◌, ◌||◌, List, ◌≡◌, refl, ℕ, zero, suc, ◌+◌, ◌-◌, ◌<◌, ◌≤◌, ltb, length, get_or, take, drop}
use Rattle.std.specs.List.{list_all}
use Rattle.std.proofs.Math.Bool.{and-false}
use Rattle.std.proofs.Common.{⊎_elim, not-suc-le-zero, eq-or-lt_of_le, le_of_suc-le-suc, sym, ◌∙◌, ap, arith, below_more, lt-ltb, le-ltb, length-drop}
use Rattle.std.proofs.Math.Decide.{dec_lt}
use Rattle.std.proofs.lemmas.List.{get_or-drop}
use Rattle.std.proofs.lemmas.List.Folds.{list_all_more}
use Rattle.refusals.specs.declared.Refusal.{Refusal}
use Rattle.refusals.specs.Numbering.{unless, and_then}
use Rattle.values.specs.declared.Number.{Number}
use Rattle.table.specs.declared.Entry.{Entry}
use Rattle.table.specs.declared.Table.{Table}
use Rattle.table.specs.Limits.{limits}
use Rattle.table.specs.Kinds.{operands_of}
use Rattle.table.specs.Tables.{entry_at, is_event, initial_of, number_at, is_undefined, zero_constant, every_slot, unused_slots}
use Rattle.table.specs.Faults.{limits_fault}
use Rattle.sound.specs.Judged.{counts_kept, slot_entry, zero_slot}

every_next : (from k : ℕ) (p : ℕ → Bool) → (from ≤ k → p k ≡ true) → (ltb k from || p k) ≡ true
every_next from k p pass = by (dec_lt k from)
  where
    by : Dec (k < from) → (ltb k from || p k) ≡ true
    by (yes l) = rw (lt-ltb k from l)
    by (no h) = rw (le-ltb k from (omega arith)) (pass (omega arith))

-- each slot from `from` on and below k passes the test
abbrev pub Passed : (ℕ → Bool) → ℕ → ℕ → Type 0
Passed p from k = (j : ℕ) → j < k → from ≤ j → p j ≡ true

-- where one starts none is behind
pub passed_none : (p : ℕ → Bool) (from : ℕ) → Passed p from from
passed_none p from j l m = absurd (not-suc-le-zero {n = 0} (omega arith))

-- one slot more
pub passed_more : (p : ℕ → Bool) (from k : ℕ) → Passed p from k → p k ≡ true → Passed p from (k + 1)
passed_more p from k passed here = below_more (λ j. from ≤ j → p j ≡ true) k passed (λ l. here)

-- all of them
pub every_slot_lem : (from to k : ℕ) (p : ℕ → Bool) → Passed p from k → to ≤ k → every_slot from to p ≡ true
unfolding every_slot
every_slot_lem from zero k p passed l = refl
every_slot_lem from (suc m) k p passed l =
    rw (every_slot_lem from m k p passed (omega arith), every_next from m p (passed m (omega arith)))

module _ {A : Type 0} (p : A → Bool) (from : ℕ) (xs : List A) (d : A) where
  -- the slots from `from` on and below n
  abbrev some_pass : ℕ → Bool
  some_pass n = list_all p (take (n - from) (drop from xs))

  -- one slot more
  some_more : (n : ℕ) → n < length xs → some_pass (suc n) ≡ (some_pass n && (ltb n from || p (get_or xs n d)))
  some_more n room = by (dec_lt n from)
    where
      by : Dec (n < from) → some_pass (suc n) ≡ (some_pass n && (ltb n from || p (get_or xs n d)))
      by (yes l) =
          let next : suc n - from ≡ 0 = omega arith in
          let here : n - from ≡ 0 = omega arith in
          rw (lt-ltb n from l, next, here)
      by (no h) =
          rw (le-ltb n from (omega arith))
          (ap (λ (k : ℕ). list_all p (take k (drop from xs))) {x = suc n - from} {y = n - from + 1} (omega arith)
          ∙ list_all_more p (drop from xs) (n - from) d (omega (arith, length-drop from xs))
          ∙ ap (λ (x : A). some_pass n && p x) (get_or-drop from xs (n - from) d ∙ ap (λ (k : ℕ). get_or xs k d) {x = from + (n - from)} {y = n} (omega arith)))

  -- a test at every slot from `from` on is the test of what stands there
  every_slot_of : (n : ℕ) → n ≤ length xs → every_slot from n (λ i. p (get_or xs i d)) ≡ some_pass n
  unfolding every_slot
  every_slot_of zero room = let none : 0 - from ≡ 0 = omega arith in rw none
  every_slot_of (suc n) room = ap (λ (b : Bool). b && (ltb n from || p (get_or xs n d))) (every_slot_of n (omega arith)) ∙ sym (some_more n (omega arith))

-- where one slot doesn't pass, the test fails
pub slot_fails : (from to : ℕ) (p : ℕ → Bool) (k : ℕ) → k < to → from ≤ k → p k ≡ false → every_slot from to p ≡ false
unfolding every_slot
slot_fails from zero p k below past bad = absurd (not-suc-le-zero below)
slot_fails from (suc m) p k below past bad =
    ⊎_elim
    (λ e. rw (← e, le-ltb k from past, bad) (and-false (every_slot from k p)))
    (λ l. rw (slot_fails from m p k l past bad))
    (eq-or-lt_of_le (le_of_suc-le-suc below))

-- the slots from a count on are tested where the counts are kept
tested : (counts entries imports variables : Bool)
    → unless (counts && (entries && imports && variables)) Refusal.TableLimits
    ≡ and_then (unless counts Refusal.TableLimits)
    (and_then (unless entries Refusal.TableLimits) (and_then (unless imports Refusal.TableLimits) (unless variables Refusal.TableLimits)))
tested false e i v = refl
tested true false i v = refl
tested true true false v = refl
tested true true true v = refl

-- refusal 4, from the counts and the three kinds of slots
pub limits_said : (t : Table) {counts entries imports variables : Bool}
    → counts_kept t.n t.q t.v ≡ counts
    → every_slot t.n limits.slots (λ k. zero_constant (operands_of (slot_entry t.entries k))) ≡ entries
    → every_slot t.q limits.imports (λ i. not (get_or t.events i false)) ≡ imports
    → every_slot t.v limits.variables (λ x. is_undefined (number_at t.variables x)) ≡ variables
    → limits_fault t ≡ unless (counts && (entries && imports && variables)) Refusal.TableLimits
unfolding limits_fault unused_slots entry_at is_event initial_of
limits_said t c e i v = rw (c, e, i, v)

-- the same, one after another, for a table that has all its slots
pub limits_in_turn : (t : Table) → length t.entries ≡ limits.slots → length t.events ≡ limits.imports → length t.variables ≡ limits.variables
    → limits_fault t
    ≡ and_then (unless (counts_kept t.n t.q t.v) Refusal.TableLimits)
    (and_then (unless (list_all zero_slot (take (limits.slots - t.n) (drop t.n t.entries))) Refusal.TableLimits)
    (and_then (unless (list_all not (take (limits.imports - t.q) (drop t.q t.events))) Refusal.TableLimits)
    (unless (list_all is_undefined (take (limits.variables - t.v) (drop t.v t.variables))) Refusal.TableLimits)))
unfolding limits_fault unused_slots entry_at is_event initial_of
limits_in_turn t entries events variables =
    rw (
      every_slot_of zero_slot t.n t.entries (Entry.ImportedCondition 0) limits.slots (omega arith),
      every_slot_of not t.q t.events false limits.imports (omega arith),
      every_slot_of is_undefined t.v t.variables Number.Undefined limits.variables (omega arith),
    )
    (tested (counts_kept t.n t.q t.v)
    (list_all zero_slot (take (limits.slots - t.n) (drop t.n t.entries)))
    (list_all not (take (limits.imports - t.q) (drop t.q t.events)))
    (list_all is_undefined (take (limits.variables - t.v) (drop t.v t.variables))))
