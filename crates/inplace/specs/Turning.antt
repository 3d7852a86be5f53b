-- The walk as the code takes it: one entry after another, from words and results to words and results.
use Rattle.std.specs.Prelude.{cond, List, ◌≡◌, refl, ℕ, ◌+◌, ◌/◌, ◌%◌, ◌<◌, ◌≤◌, eqb, ltb, length, get_or, set}
use Rattle.std.proofs.Common.{sym, ◌∙◌, ap, subst, add-one, arith, eq-eqb, ne_eqb, lt-ltb, le-ltb, get_or-set_same, get_or-set_other}
use Rattle.std.proofs.Math.Decide.{dec_lt}
use Rattle.step.specs.declared.Taken.{Taken}
use Rattle.monitor.specs.declared.Monitor.{Monitor}
use Rattle.monitor.specs.Stepping.{walk_to, walked, monitor_after}
use Rattle.words.specs.Words.{zero_word}
use Rattle.words.specs.Layout.{state_of}
use Rattle.judging.specs.Rows.{result_word, cell_word}
use Rattle.inplace.specs.Numbers.{number_taken, done_word_lem}
use Rattle.inplace.specs.Walking.{Ready, Come, Looked, result_is, cell_is, rows_more, held_stored, held_left}

-- one entry is taken: whatever the walk had come to, it comes one further; no other result slot is touched
pub record Advances (told : List ℕ) (time k : ℕ) (state results later shown : List ℕ) : Type 0 where
  pub one : (m : Monitor) (s : Taken) → Ready m s told time → k < m.table.n → Come m s state results k → Come m s later shown (k + 1)
  pub rest : (j : ℕ) → (j ≡ k → ⊥) → get_or shown j 0 ≡ get_or results j 0

-- the first n entries are taken
pub record Walked (told : List ℕ) (time n : ℕ) (state results later shown : List ℕ) : Type 0 where
  pub all : (m : Monitor) (s : Taken) → Ready m s told time → n ≤ m.table.n → Come m s state results 0 → Come m s later shown n
  pub rest : (j : ℕ) → n ≤ j → get_or shown j 0 ≡ get_or results j 0

-- the first result is not yet known; where there is no entry there is none
abbrev pub forgotten : List ℕ → ℕ → List ℕ
forgotten results n = cond (ltb 0 n) (set results 0 0) results

-- an entry is taken: its word was looked at, it was judged, and the words were stored
module _ (time : ℕ) {told : List ℕ} {k : ℕ} {state results : List ℕ} {w x y news reported held cell : ℕ}
    (looked : Looked state told results k w x y news reported held cell) (long : length results ≡ 128)
    {r d : ℕ} (judged : (r ≡ result_word w x y news reported held (zero_word + time) (time + 1) cell) × (d ≡ cell_word w x y news reported held (zero_word + time) (time + 1) cell))
    {shown : List ℕ} (stored : shown ≡ set results k r) where
  -- no other slot is touched
  others : (j : ℕ) → (j ≡ k → ⊥) → get_or shown j 0 ≡ get_or results j 0
  others j other = rw stored (get_or-set_other results k j r 0 other)

  -- the step of the walk, once the words after it are known
  one_by : {later : List ℕ} → ((m : Monitor) (s : Taken) → Ready m s told time → k < m.table.n → Come m s state results k
      → later ≡ state_of (monitor_after m s (walked m s k (walk_to m s k)))) → Advances told time k state results later shown
  unfolding walk_to walked
  one_by words =
      record {
        one = λ m s ready below come.
            rw (add-one k)
            (record { words = words m s ready below come; rows = λ j there. rows_more ready come below looked long (result_is ready come below looked judged.0) stored j (omega arith) });
        rest = others;
      }

  -- an update that is done gives its variable the number
  pub advances_done : {later : List ℕ} (h : ℕ) → r ≡ 8 → h ≡ number_taken y → later ≡ set (set state (132 + k) d) (260 + w / 524288 % 32) h
      → Advances told time k state results later shown
  advances_done h is number put =
      one_by λ m s ready below come.
      put
      ∙ held_stored ready come below looked h
      (sym (done_word_lem _) ∙ ap (λ (n : ℕ). eqb n 8) (sym (result_is ready come below looked judged.0)) ∙ eq-eqb r 8 is)
      (cell_is ready come below looked judged.1) number

  -- any other entry changes no variable
  pub advances_plain : {later : List ℕ} → (r ≡ 8 → ⊥) → later ≡ set state (132 + k) d → Advances told time k state results later shown
  advances_plain none put =
      one_by λ m s ready below come.
      put
      ∙ held_left ready come below looked
      (sym (done_word_lem _) ∙ ap (λ (n : ℕ). eqb n 8) (sym (result_is ready come below looked judged.0)) ∙ ne_eqb r 8 none)
      (cell_is ready come below looked judged.1)

-- how far the walk over n entries has come; the slots are as many as before
pub record Walking (told : List ℕ) (time n : ℕ) (state results : List ℕ) (k : ℕ) (later shown : List ℕ) : Type 0 where
  pub within : k ≤ n
  pub words : length later ≡ length state
  pub slots : length shown ≡ length results
  pub sofar : Walked told time k state results later shown

module _ {told : List ℕ} {time n : ℕ} {state results : List ℕ} where
  -- no entry is taken yet
  pub walking_none : Walking told time n state results 0 state results
  walking_none = record { within = omega arith; words = refl; slots = refl; sofar = record { all = λ m s ready few come. come; rest = λ j h. refl } }

  module _ {k : ℕ} {mid row : List ℕ} (so : Walking told time n state results k mid row) where
    -- one entry more
    pub walking_more : {later shown : List ℕ} → k < n → length later ≡ length mid → length shown ≡ length row → Advances told time k mid row later shown
        → Walking told time n state results (k + 1) later shown
    walking_more more words slots next =
        record {
          within = omega arith;
          words = words ∙ so.words;
          slots = slots ∙ so.slots;
          sofar =
              record {
                all = λ m s ready few come. next.one m s ready (omega arith) (so.sofar.all m s ready (omega arith) come);
                rest = λ j h. next.rest j (λ same. omega arith) ∙ so.sofar.rest j (omega arith);
              };
        }

    -- all are taken
    pub walking_all : n ≤ k → Walked told time n state results mid row
    walking_all none = subst (λ j. Walked told time j state results mid row) {x = k} {y = n} (omega (arith, so.within)) so.sofar

-- of the entries' slots only the first was touched
pub forgotten_rest : (results : List ℕ) (n j : ℕ) → n ≤ j → get_or (forgotten results n) j 0 ≡ get_or results j 0
forgotten_rest results n j past =
    elim (dec_lt 0 n) [
      | yes some ↦ rw (lt-ltb 0 n some) (get_or-set_other results 0 j 0 0 (λ first. omega arith))
      | no none ↦ rw (le-ltb 0 n (omega arith)) refl
    ]

-- and it is 0
pub forgotten_first : (results : List ℕ) (n : ℕ) → 0 < n → 0 < length results → get_or (forgotten results n) 0 0 ≡ 0
forgotten_first results n some slots = rw (lt-ltb 0 n some) (get_or-set_same results 0 0 0 slots)
