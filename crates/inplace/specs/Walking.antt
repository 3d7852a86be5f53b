-- The walk over the entries in place: the words are those of the monitor so far, and one entry more.
use Rattle.std.specs.Prelude.{Bool, true, false, ◌≡◌, refl, ℕ, suc, ◌+◌, ◌-◌, ◌/◌, ◌%◌, ◌<◌, ◌≤◌, length, Ok}
use mathlib.Core.List.{List}
use Rattle.std.proofs.Common.{sym, ◌∙◌, subst, add-one, arith, length-set, get_or-set_same, get_or-set_other}
use Rattle.std.proofs.Math.Path.{ap, ap₂}
use Rattle.std.proofs.Math.Decide.{ℕ_discrete}
use Rattle.std.proofs.Math.ListN.{get_or, set}
use Rattle.values.specs.declared.Outcome.{Outcome}
use Rattle.values.specs.declared.Slot.{Slot}
use Rattle.values.specs.Outcomes.{number_in, is_done}
use Rattle.bits.specs.Lists.{get_d_list}
use Rattle.table.specs.declared.Entry.{Entry}
use Rattle.table.specs.Kinds.{kind_of, operands_of}
use Rattle.table.specs.Tables.{entry_at, number_at}
use Rattle.step.specs.declared.Taken.{Taken}
use Rattle.step.specs.Taking.{told_at, truth_at}
use Rattle.meaning.specs.declared.Places.{Places}
use Rattle.meaning.specs.Places.{entries_in, places_of}
use Rattle.meaning.specs.Inside.{Inside, all_named, a_slot}
use Rattle.meaning.specs.Meaning.{meaning}
use Rattle.memory.specs.Memory.{memory_of, remember}
use Rattle.monitor.specs.declared.Monitor.{Monitor}
use Rattle.monitor.specs.Keeping.{cell_at, unsound}
use Rattle.monitor.specs.Laws.{sound_of}
use Rattle.monitor.specs.Stepping.{Walk, result_in, held_after, recalled, walked, walk_to, monitor_after}
use Rattle.monitor.specs.Walking.{slots_enough, places_there}
use Rattle.words.specs.Words.{zero_word, outcome_word, entry_word}
use Rattle.words.specs.Layout.{Kept, state_of}
use Rattle.words.specs.Standing.{entry_there, cell_there, held_there, truth_there, cell_set, held_set}
use Rattle.words.specs.Fields.{Fields, entry_fields}
use Rattle.judging.specs.Rows.{result_word, cell_word}
use Rattle.judging.specs.Judging.{Reads, judged_result, judged_cell}
use Rattle.hearing.specs.Hearing.{told_words}
use Rattle.inplace.specs.Ranges.{TakenFits, WalkFits, walk_fits, walk_kept, cell_untouched}
use Rattle.inplace.specs.Numbers.{number_taken, number_taken_lem, not_a_constant}

-- a sound monitor, and a step that was taken, told in words
pub record Ready (m : Monitor) (s : Taken) (told : List ℕ) (time : ℕ) : Type 0 where
  pub shape : Kept m
  pub sound : unsound m ≡ Ok tt
  pub fits : TakenFits s
  pub heard : told ≡ told_words s.told
  pub now : time ≡ s.time

-- the entries before k are taken: the words are those of the monitor so far, and each of their result slots has its word; so has the first slot, from the start
pub record Come (m : Monitor) (s : Taken) (state results : List ℕ) (k : ℕ) : Type 0 where
  pub words : state ≡ state_of (monitor_after m s (walk_to m s k))
  pub rows : (j : ℕ) → j < suc (k - 1) → get_or results j 0 ≡ outcome_word (result_in (walk_to m s k).results j)

-- the slots of the monitor so far
pub after_kept : (m : Monitor) (s : Taken) → Kept m → TakenFits s → (k : ℕ) → Kept (monitor_after m s (walk_to m s k))
unfolding monitor_after
after_kept m s shape fits k =
    let w = walk_kept m s shape k in
    record { table = shape.table; reported = fits.reported; held = w.held; cells = w.cells }

-- what is read of the words for entry k: its own, those at its operand entries, of its import and its variable, and what it remembers
pub record Looked (state told results : List ℕ) (k w x y news reported held cell : ℕ) : Type 0 where
  pub entry : w ≡ get_or state (4 + k) 0
  pub first : x ≡ get_or results (w / 32 % 128) 0
  pub second : y ≡ get_or results (w / 4096 % 128) 0
  pub telling : news ≡ get_or told (w / 16777216 % 64) 0
  pub standing : reported ≡ get_or state (388 + w / 16777216 % 64) 0
  pub holds : held ≡ get_or state (260 + w / 524288 % 32) 0
  pub kept : cell ≡ get_or state (132 + k) 0

module _ {m : Monitor} {s : Taken} {told : List ℕ} {time : ℕ} (ready : Ready m s told time)
    {state results : List ℕ} {k : ℕ} (come : Come m s state results k) (below : k < m.table.n)
    {w x y news reported held cell : ℕ} (looked : Looked state told results k w x y news reported held cell) where
  abbrev e : Entry
  e = entry_at m.table k

  abbrev p : Places
  p = places_of e

  abbrev sofar : Walk
  sofar = walk_to m s k

  abbrev X : Outcome
  X = result_in sofar.results p.first

  abbrev Y : Outcome
  Y = result_in sofar.results p.second

  -- there are slots enough
  few : m.table.n ≤ 128
  few = slots_enough m ready.sound

  -- where the entry looks, there is a slot
  inside : Inside p
  inside = places_there m k refl ready.sound below

  -- an operand entry is one of those that are taken; where there is none, the first slot stands in
  among : (i : ℕ) → get_or (entries_in (operands_of e)) i 0 < suc (k - 1)
  among = a_slot k (suc (k - 1)) (entries_in (operands_of e)) (all_named m.table k (operands_of e) ((sound_of m ready.sound).operands k below)).entries
      (omega arith) (omega arith)

  -- a word of the monitor so far
  at_place : (j : ℕ) {v : ℕ} → get_or (state_of (monitor_after m s sofar)) j 0 ≡ v → get_or state j 0 ≡ v
  at_place j here = ap (λ (l : List ℕ). get_or l j 0) come.words ∙ here

  -- the entry's own word
  entry_word_lem : w ≡ entry_word e
  unfolding monitor_after
  entry_word_lem = looked.entry ∙ at_place (4 + k) (entry_there _ k (omega (arith, few)))

  -- where it looks are the fields of its word
  fields : (kind_of e ≡ 15 → ⊥) → Fields p w
  fields other = subst (Fields p) (sym entry_word_lem) (entry_fields e other inside)

  -- the words stand for what the entry looks at
  reads : Reads e X Y (told_at s.told p.imported) (truth_at s.reported p.imported) (number_at sofar.held p.variable) w x y news reported held
  unfolding monitor_after places_of
  reads =
      record {
        entry = entry_word_lem;
        first = λ other. looked.first ∙ ap (λ (j : ℕ). get_or results j 0) (fields other).first ∙ come.rows p.first (among 0);
        second = λ other. looked.second ∙ ap (λ (j : ℕ). get_or results j 0) (fields other).second ∙ come.rows p.second (among 1);
        telling = λ other. looked.telling ∙ ap (λ (j : ℕ). get_or told j 0) (fields other).imported
            ∙ ap (λ (l : List ℕ). get_or l p.imported 0) ready.heard ∙ get_d_list 64 _ p.imported 0 (omega (arith, inside.imported));
        standing = λ other. looked.standing ∙ ap (λ (j : ℕ). get_or state (388 + j) 0) (fields other).imported
            ∙ at_place (388 + p.imported) (truth_there _ p.imported (omega (arith, inside.imported)));
        holds = λ other. looked.holds ∙ ap (λ (j : ℕ). get_or state (260 + j) 0) (fields other).variable
            ∙ at_place (260 + p.variable) (held_there _ p.variable inside.variable);
      }

  -- what it remembers has not been touched
  cell_word_lem : cell ≡ cell_at m k
  unfolding monitor_after
  cell_word_lem = looked.kept ∙ at_place (132 + k) (cell_there _ k (omega (arith, few))) ∙ cell_untouched m s k k (omega arith)

  -- what the walk so far leaves is in range
  so : WalkFits sofar
  so = walk_fits m ready.shape ready.sound s ready.fits k (omega arith)

  -- what the entry says
  abbrev o : Outcome
  o = meaning e X Y (recalled m s sofar k)

  -- and what it remembers for the next step
  abbrev c : ℕ
  c = remember (memory_of e) X Y (suc s.time) (cell_at m k)

  -- the word that it is judged to is its result's
  pub result_is : {r : ℕ} → r ≡ result_word w x y news reported held (zero_word + time) (time + 1) cell → r ≡ outcome_word o
  unfolding recalled
  result_is is =
      is
      ∙ ap (λ (n : ℕ). result_word w x y news reported held (zero_word + time) n cell) (add-one time)
      ∙ ap₂ (λ (n d : ℕ). result_word w x y news reported held (zero_word + n) (suc n) d) ready.now cell_word_lem
      ∙ judged_result s.time (cell_at m k) reads (so.results p.first) (so.results p.second) ready.fits.time

  -- and so is what it remembers
  pub cell_is : {r : ℕ} → r ≡ cell_word w x y news reported held (zero_word + time) (time + 1) cell → r ≡ c
  cell_is is =
      is
      ∙ ap (λ (n : ℕ). cell_word w x y news reported held (zero_word + time) n cell) (add-one time)
      ∙ ap₂ (λ (n d : ℕ). cell_word w x y news reported held (zero_word + n) (suc n) d) ready.now cell_word_lem
      ∙ judged_cell s.time (cell_at m k) reads

  -- an entry that is done is an update, and no constant
  done_looks : is_done o ≡ true → kind_of e ≡ 15 → ⊥
  done_looks done = not_a_constant e X Y (recalled m s sofar k) done

  -- one slot is filled anew, and its word with it
  pub rows_more : length results ≡ 128 → {r : ℕ} → r ≡ outcome_word o → {later : List ℕ} → later ≡ set results k r
      → (j : ℕ) → j < suc k → get_or later j 0 ≡ outcome_word (result_in (set sofar.results k (record { outcome = o })) j)
  rows_more long is stored j there =
      elim (ℕ_discrete j k) [
        | yes here ↦ rw (stored, here)
            (get_or-set_same results k _ 0 (omega (arith, few)) ∙ is
            ∙ ap (λ (slot : Slot). outcome_word slot.outcome)
            (sym (get_or-set_same sofar.results k (record { outcome = o }) (record { outcome = Outcome.Nothing })
            (omega (arith, few, (walk_kept m s ready.shape k).results)))))
        | no other ↦ rw stored
            (get_or-set_other results k j _ 0 other ∙ come.rows j (omega arith)
            ∙ ap (λ (slot : Slot). outcome_word slot.outcome)
            (sym (get_or-set_other sofar.results k j (record { outcome = o }) (record { outcome = Outcome.Nothing }) other)))
      ]

  -- the monitor so far, with what the entry remembers
  abbrev marked : Monitor
  marked = record { table = m.table; last = suc s.time; reported = s.reported; held = sofar.held; cells = set sofar.cells k c }

  -- its word is stored
  cell_stored : {d : ℕ} → d ≡ c → set state (132 + k) d ≡ state_of marked
  unfolding monitor_after
  cell_stored is =
      ap₂ (λ (l : List ℕ) (d : ℕ). set l (132 + k) d) come.words is
      ∙ cell_set (monitor_after m s sofar) (after_kept m s ready.shape ready.fits k) k c (omega (arith, few))

  -- and its slots stay
  marked_kept : Kept marked
  marked_kept =
      let w = walk_kept m s ready.shape k in
      record { table = ready.shape.table; reported = ready.fits.reported; held = w.held; cells = length-set sofar.cells k c ∙ w.cells }

  -- "An update whose event occurs gives the variable that number"
  pub held_stored : (h : ℕ) {d : ℕ} → is_done o ≡ true → d ≡ c → h ≡ number_taken y
      → set (set state (132 + k) d) (260 + w / 524288 % 32) h ≡ state_of (monitor_after m s (walked m s k sofar))
  unfolding monitor_after walked
  held_stored h done is number =
      ap₂ (λ (l : List ℕ) (x : ℕ). set l (260 + x) h) (cell_stored is) (fields (done_looks done)).variable
      ∙ ap (λ (n : ℕ). set (state_of marked) (260 + p.variable) n)
      (number ∙ ap number_taken (reads.second (done_looks done)) ∙ number_taken_lem Y)
      ∙ held_set marked marked_kept p.variable (number_in Y) inside.variable
      ∙ ap (λ (b : Bool). state_of (monitor_after m s (record { results = set sofar.results k (record { outcome = o }); held = held_after b p.variable (number_in Y) sofar.held; cells = set sofar.cells k c }))) (sym done)

  -- and nothing else changes a variable
  pub held_left : {d : ℕ} → is_done o ≡ false → d ≡ c → set state (132 + k) d ≡ state_of (monitor_after m s (walked m s k sofar))
  unfolding monitor_after walked
  held_left none is =
      cell_stored is
      ∙ ap (λ (b : Bool). state_of (monitor_after m s (record { results = set sofar.results k (record { outcome = o }); held = held_after b p.variable (number_in Y) sofar.held; cells = set sofar.cells k c }))) (sym none)
