-- An entry judged on words says what its kind means, and remembers what its kind has to.
use Rattle.std.specs.Prelude.{true, ◌&&◌, ◌||◌, ◌≡◌, ℕ, suc, ◌+◌, ◌/◌, ◌%◌, ◌<◌, ◌^◌, ℤ, pos, get_or}
use Rattle.std.proofs.Math.Path.{refl}
use Rattle.std.proofs.Common.{arith, lt-ltb}
use Rattle.values.specs.declared.Truth.{Truth}
use Rattle.values.specs.declared.Number.{Number}
use Rattle.values.specs.declared.Outcome.{Outcome}
use Rattle.values.specs.Numbers.{fits_n}
use Rattle.values.specs.Truths.{is_true}
use Rattle.values.specs.Outcomes.{condition_in, event_in, number_in}
use Rattle.table.specs.declared.Entry.{Entry}
use Rattle.table.specs.declared.Entry.TheVariants.{ImportedCondition, Defined, Pair, Not, Or, And, Implies, Less, Equal, ImportedEvent, Start, End, Both, Either, When, Constant, Variable, Sum, Difference, Clock, Value, Time, Update, Alarm, Property}
use Rattle.table.specs.Kinds.{kind_of, operands_of}
use Rattle.step.specs.declared.Told.{Told}
use Rattle.step.specs.Steps.{occurs_in}
use Rattle.kinds.specs.Apart.{apart_of}
use Rattle.kinds.specs.Laws.{kind_lt}
use Rattle.meaning.specs.Meaning.{meaning, starts, ends}
use Rattle.memory.specs.Memory.{marked, open_now, latest_now, memory_of, remember}
use Rattle.memory.specs.Recall.{givens_from}
use Rattle.words.specs.Words.{zero_word, number_word, truth_word, outcome_word, told_word, entry_word}
use Rattle.judging.specs.Rows.{results, cells, result_word, cell_word}
use Rattle.judging.specs.Truths.{either_word_lem, truth_word_lem, defined_word_lem, not_word_lem, or_word, and_word, implies_word_lem, property_word_lem}
use Rattle.judging.specs.Whole.{sum_counted, difference_counted, less_counted, equal_counted}
use Rattle.judging.specs.Said.{tested, numbered, occurs_told, value_told, kept_word_lem}

-- what the words of an entry's surroundings stand for; a constant looks at none of them
pub record Reads (e : Entry) (X Y : Outcome) (T : Told) (R : Truth) (H : Number) (w x y told reported held : ℕ) : Type 0 where
  pub entry : w ≡ entry_word e
  pub first : (kind_of e ≡ 15 → ⊥) → x ≡ outcome_word X
  pub second : (kind_of e ≡ 15 → ⊥) → y ≡ outcome_word Y
  pub telling : (kind_of e ≡ 15 → ⊥) → told ≡ told_word T
  pub standing : (kind_of e ≡ 15 → ⊥) → reported ≡ truth_word R
  pub holds : (kind_of e ≡ 15 → ⊥) → held ≡ number_word H

-- the kind stands in the lowest five bits of an entry's word
kind_word : (e : Entry) {w : ℕ} → w ≡ entry_word e → w % 32 ≡ kind_of e
unfolding entry_word
kind_word e is = let few = kind_lt e in omega (arith, is)

-- and a constant's number above them
constant_word : (z : ℤ) {w : ℕ} → w ≡ entry_word (Constant z) → w / 32 ≡ number_word (Number.Whole z)
unfolding entry_word apart_of kind_of operands_of
constant_word z is = omega (arith, is)

module _ {X Y : Outcome} {T : Told} {R : Truth} {H : Number} {w x y told reported held : ℕ} (time cell : ℕ) where
  -- the row of each kind is the word of what it means
  by_kind : {e : Entry} → Reads e X Y T R H w x y told reported held → fits_n (number_in X) ≡ true → fits_n (number_in Y) ≡ true → time < 2 ^ 47
      → get_or (results w x y told reported held (zero_word + time) (suc time) cell) (kind_of e) 0
      ≡ outcome_word (meaning e X Y (givens_from T R H (pos time) (suc time) cell X Y))
  unfolding kind_of meaning outcome_word
  by_kind {e = ImportedCondition i} r fx fy soon = r.standing (λ k. omega arith)
  by_kind {e = Defined a} r fx fy soon = let p = tested X (r.first (λ k. omega arith)) in rw (p.fails, p.holds) (defined_word_lem (condition_in X))
  by_kind {e = Pair a b} r fx fy soon =
      let p = tested X (r.first (λ k. omega arith)) in let q = tested Y (r.second (λ k. omega arith)) in
      rw (p.occurs, q.occurs) (truth_word_lem (open_now (marked cell) (event_in X) (event_in Y)))
  by_kind {e = Not a} r fx fy soon = let p = tested X (r.first (λ k. omega arith)) in rw (p.fails, p.holds) (not_word_lem (condition_in X))
  by_kind {e = Or a b} r fx fy soon =
      let p = tested X (r.first (λ k. omega arith)) in let q = tested Y (r.second (λ k. omega arith)) in
      rw (p.holds, p.fails, q.holds, q.fails) (or_word (condition_in X) (condition_in Y))
  by_kind {e = And a b} r fx fy soon =
      let p = tested X (r.first (λ k. omega arith)) in let q = tested Y (r.second (λ k. omega arith)) in
      rw (p.holds, p.fails, q.holds, q.fails) (and_word (condition_in X) (condition_in Y))
  by_kind {e = Implies a b} r fx fy soon =
      let p = tested X (r.first (λ k. omega arith)) in let q = tested Y (r.second (λ k. omega arith)) in
      rw (p.holds, p.fails, q.holds, q.fails) (implies_word_lem (condition_in X) (condition_in Y))
  by_kind {e = Less a b} r fx fy soon = less_counted (numbered X (r.first (λ k. omega arith)) fx) (numbered Y (r.second (λ k. omega arith)) fy)
  by_kind {e = Equal a b} r fx fy soon = equal_counted (numbered X (r.first (λ k. omega arith)) fx) (numbered Y (r.second (λ k. omega arith)) fy)
  by_kind {e = ImportedEvent i} r fx fy soon = rw (r.telling (λ k. omega arith), occurs_told T) (either_word_lem (occurs_in T) 6 5)
  by_kind {e = Start a} r fx fy soon =
      let p = tested X (r.first (λ k. omega arith)) in rw p.holds (either_word_lem (starts (condition_in X) (marked cell)) 6 5)
  by_kind {e = End a} r fx fy soon =
      let p = tested X (r.first (λ k. omega arith)) in rw p.fails (either_word_lem (ends (condition_in X) (marked cell)) 6 5)
  by_kind {e = Both a b} r fx fy soon =
      let p = tested X (r.first (λ k. omega arith)) in let q = tested Y (r.second (λ k. omega arith)) in
      rw (p.occurs, q.occurs) (either_word_lem (event_in X && event_in Y) 6 5)
  by_kind {e = Either a b} r fx fy soon =
      let p = tested X (r.first (λ k. omega arith)) in let q = tested Y (r.second (λ k. omega arith)) in
      rw (p.occurs, q.occurs) (either_word_lem (event_in X || event_in Y) 6 5)
  by_kind {e = When a b} r fx fy soon =
      let p = tested X (r.first (λ k. omega arith)) in let q = tested Y (r.second (λ k. omega arith)) in
      rw (p.occurs, q.holds) (either_word_lem (event_in X && is_true (condition_in Y)) 6 5)
  by_kind {e = Constant z} r fx fy soon = constant_word z r.entry
  by_kind {e = Variable v} r fx fy soon = r.holds (λ k. omega arith)
  by_kind {e = Sum a b} r fx fy soon = sum_counted (numbered X (r.first (λ k. omega arith)) fx) (numbered Y (r.second (λ k. omega arith)) fy)
  by_kind {e = Difference a b} r fx fy soon = difference_counted (numbered X (r.first (λ k. omega arith)) fx) (numbered Y (r.second (λ k. omega arith)) fy)
  by_kind {e = Clock} r fx fy soon = rw (lt-ltb time (2 ^ 47) soon)
  by_kind {e = Value i} r fx fy soon = rw (r.telling (λ k. omega arith)) (value_told T)
  by_kind {e = Time a} r fx fy soon = let p = tested X (r.first (λ k. omega arith)) in rw p.occurs (kept_word_lem (latest_now (event_in X) (suc time) cell))
  by_kind {e = Update a v b} r fx fy soon = let p = tested X (r.first (λ k. omega arith)) in rw p.occurs (either_word_lem (event_in X) 8 7)
  by_kind {e = Alarm a} r fx fy soon = let p = tested X (r.first (λ k. omega arith)) in rw p.occurs (either_word_lem (event_in X) 10 9)
  by_kind {e = Property a} r fx fy soon = let p = tested X (r.first (λ k. omega arith)) in rw (p.holds, p.fails) (property_word_lem (condition_in X))

  -- the cell of each kind is what it remembers
  cell_by_kind : {e : Entry} → Reads e X Y T R H w x y told reported held
      → get_or (cells x y (suc time) cell) (kind_of e) cell ≡ remember (memory_of e) X Y (suc time) cell
  unfolding kind_of memory_of
  cell_by_kind {e = ImportedCondition i} r = refl
  cell_by_kind {e = Defined a} r = refl
  cell_by_kind {e = Pair a b} r =
      let p = tested X (r.first (λ k. omega arith)) in let q = tested Y (r.second (λ k. omega arith)) in rw (p.occurs, q.occurs)
  cell_by_kind {e = Not a} r = refl
  cell_by_kind {e = Or a b} r = refl
  cell_by_kind {e = And a b} r = refl
  cell_by_kind {e = Implies a b} r = refl
  cell_by_kind {e = Less a b} r = refl
  cell_by_kind {e = Equal a b} r = refl
  cell_by_kind {e = ImportedEvent i} r = refl
  cell_by_kind {e = Start a} r = rw (tested X (r.first (λ k. omega arith))).holds
  cell_by_kind {e = End a} r = rw (tested X (r.first (λ k. omega arith))).fails
  cell_by_kind {e = Both a b} r = refl
  cell_by_kind {e = Either a b} r = refl
  cell_by_kind {e = When a b} r = refl
  cell_by_kind {e = Constant z} r = refl
  cell_by_kind {e = Variable v} r = refl
  cell_by_kind {e = Sum a b} r = refl
  cell_by_kind {e = Difference a b} r = refl
  cell_by_kind {e = Clock} r = refl
  cell_by_kind {e = Value i} r = refl
  cell_by_kind {e = Time a} r = rw (tested X (r.first (λ k. omega arith))).occurs
  cell_by_kind {e = Update a v b} r = refl
  cell_by_kind {e = Alarm a} r = refl
  cell_by_kind {e = Property a} r = refl

  module _ {e : Entry} (reads : Reads e X Y T R H w x y told reported held) where
    -- the word that an entry is judged to is that of its result
    pub judged_result : fits_n (number_in X) ≡ true → fits_n (number_in Y) ≡ true → time < 2 ^ 47
        → result_word w x y told reported held (zero_word + time) (suc time) cell ≡ outcome_word (meaning e X Y (givens_from T R H (pos time) (suc time) cell X Y))
    unfolding result_word
    judged_result fx fy soon = rw (kind_word e reads.entry) (by_kind reads fx fy soon)

    -- and what it remembers is what its kind has to
    pub judged_cell : cell_word w x y told reported held (zero_word + time) (suc time) cell ≡ remember (memory_of e) X Y (suc time) cell
    unfolding cell_word
    judged_cell = rw (kind_word e reads.entry) (cell_by_kind reads)
