-- A step taken in place answers as the monitor does, leaves the words of the monitor after it, and shows its results.
use Rattle.std.specs.Prelude.{Bool, true, false, ◌&&◌, ◌≡◌, refl, length, replicate, take, drop, Result, Ok, Err}
use Rattle.std.proofs.Math.Bool.{cond}
use mathlib.Core.List.{List}
use Rattle.std.proofs.Math.Path.{sym, ap}
use Rattle.std.proofs.Common.{◌∙◌, subst, add-one, lt-ltb, le-ltb}
use Prim.Native.Nat.{ℕ, suc, ◌+◌, ◌-◌, ◌<◌, ◌≤◌, ◌^◌}
use Rattle.std.proofs.Math.Decide.{dec_lt}
use native.Mathlib.Omega.{arith}
use Rattle.std.proofs.Math.Dec.{ltb}
use Rattle.std.proofs.Math.ListN.{get_or, set}
use Rattle.refusals.specs.declared.Refusal.{Refusal}
use Rattle.refusals.specs.Answers.{Answer}
use Rattle.bits.specs.Bits.{list_to}
use Rattle.bits.specs.Lists.{get_d_list}
use Rattle.bits.specs.Filled.{list_is}
use Rattle.table.specs.declared.Table.{Table}
use Rattle.step.specs.declared.Taken.{Taken}
use Rattle.values.specs.declared.Truth.{Truth}
use Rattle.monitor.specs.declared.Monitor.{Monitor}
use Rattle.monitor.specs.declared.Stepped.{Stepped}
use Rattle.monitor.specs.Keeping.{unsound}
use Rattle.monitor.specs.Laws.{sound_of}
use Rattle.monitor.specs.Stepping.{result_in, walk_to, monitor_after, advanced, refused_step, step_reply, taken_by, sound_step, step_of}
use Rattle.monitor.specs.Walking.{slots_enough}
use Rattle.words.specs.Words.{outcome_word}
use Rattle.words.specs.Layout.{Kept, state_of}
use Rattle.words.specs.Standing.{length_state, last_set, last_there, entries_count, imports_count, events_part}
use Rattle.hearing.specs.Hearing.{event_words, told_words, answer_of, Heard}
use Rattle.inplace.specs.Reporting.{Spoken, Reported, reported_to, reported_in, reported_all}
use Rattle.inplace.specs.Saying.{taken_spoken, taken_fits}
use Rattle.inplace.specs.Turning.{Walked, forgotten, forgotten_first, forgotten_rest}
use Rattle.inplace.specs.Walking.{Ready, Come}

-- a step of the time, told in words, is taken: the words of the monitor are those of the one after it, and the first n slots have its results
pub record Advanced (told : List ℕ) (n q time : ℕ) (state results later shown : List ℕ) : Type 0 where
  pub all : (m : Monitor) (s : Taken) → Ready m s told time → Spoken m s → n ≡ m.table.n → q ≡ m.table.q → state ≡ state_of m
      → Come m s later shown n
  pub rest : (j : ℕ) → n ≤ j → get_or shown j 0 ≡ get_or results j 0

module _ (told : List ℕ) (n q time : ℕ) (state results : List ℕ) (long : length results ≡ 128) (few : n ≤ 128)
    (mid timed row : List ℕ) (kept : Reported told q state mid) (stamped : timed ≡ set mid 3 (time + 1)) (forgot : row ≡ forgotten results n) where
  -- once the reports are kept, and the time, the words are those of the monitor before its first entry
  stamped_words : (m : Monitor) (s : Taken) → Ready m s told time → Spoken m s → q ≡ m.table.q → state ≡ state_of m
      → timed ≡ state_of (monitor_after m s (walk_to m s 0))
  unfolding monitor_after walk_to
  stamped_words m s ready spoken imports words =
      let sound = sound_of m ready.sound in
      stamped
      ∙ ap (λ (l : List ℕ). set l 3 (time + 1))
      (kept.kept m s ready.shape ready.heard words
      ∙ ap (λ (r : List Truth). state_of (reported_in m r))
      (ap (reported_to m s) imports ∙ reported_all m s ready.shape sound.within.imports spoken))
      ∙ last_set (reported_in m s.reported) (time + 1)
      ∙ ap (λ (last : ℕ). state_of (record { table = m.table; last = last; reported = s.reported; held = m.held; cells = m.cells }))
      (add-one time ∙ ap suc ready.now)

  -- and the first result is not known yet
  forgotten_rows : (m : Monitor) (s : Taken) → unsound m ≡ Ok tt → n ≡ m.table.n → (j : ℕ) → j < 1 → get_or row j 0 ≡ outcome_word (result_in (walk_to m s 0).results j)
  unfolding walk_to outcome_word
  forgotten_rows m s good entries j first =
      let here : j ≡ 0 = omega arith in
      rw (here, forgot) (forgotten_first results n (omega (arith, (sound_of m good).within.some_entry)) (omega arith))

  -- then the entries are taken
  pub advanced_whole : {later shown : List ℕ} → Walked told time n timed row later shown → Advanced told n q time state results later shown
  advanced_whole walk =
      record {
        all = λ m s ready spoken entries imports words.
            walk.all m s ready (omega arith)
            (record { words = stamped_words m s ready spoken imports words; rows = forgotten_rows m s ready.sound entries });
        rest = λ j past. walk.rest j past ∙ rw forgot (forgotten_rest results n j past);
      }

-- whether an answer is an acceptance
abbrev pub is_accepted : Answer → Bool
is_accepted (Ok _) = true
is_accepted (Err r) = false

-- what the slots hold after a step, by what they held before: the first n have its results where it was accepted; else they stay
unfoldable pub shown_over : Stepped → ℕ → List ℕ → List ℕ
shown_over reply n before = list_to 128 (λ j. cond (is_accepted reply.answer && ltb j n) (outcome_word (result_in reply.results j)) (get_or before j 0))

-- each of the first n slots shows its result's word, where the step was accepted
pub shown_at : (reply : Stepped) (n : ℕ) (before : List ℕ) (k : ℕ) → reply.answer ≡ Ok tt → k < n → n ≤ 128
    → get_or (shown_over reply n before) k 0 ≡ outcome_word (result_in reply.results k)
unfolding shown_over
shown_at reply n before k good below few =
    get_d_list 128 _ k 0 (omega arith)
    ∙ ap (λ (a : Answer). cond (is_accepted a && ltb k n) (outcome_word (result_in reply.results k)) (get_or before k 0)) good
    ∙ ap (λ (b : Bool). cond b (outcome_word (result_in reply.results k)) (get_or before k 0)) (lt-ltb k n below)

-- a step of these bytes is taken in place
pub record Taking (m : Monitor) (bytes : List ℕ) (r : Answer) (results later shown : List ℕ) : Type 0 where
  pub answer : r ≡ (step_of m bytes).answer
  pub words : later ≡ state_of (step_of m bytes).monitor
  pub slots : shown ≡ shown_over (step_of m bytes) m.table.n results

-- whatever sound monitor the words are those of
pub record Took (bytes : List ℕ) (r : Answer) (state results later shown : List ℕ) : Type 0 where
  pub taken : (m : Monitor) → Kept m → unsound m ≡ Ok tt → state ≡ state_of m → length results ≡ 128 → Taking m bytes r results later shown

-- the same, where n and q were read from the words
pub record Takes (n q : ℕ) (bytes : List ℕ) (r : Answer) (state results later shown : List ℕ) : Type 0 where
  pub taken : (m : Monitor) → Kept m → unsound m ≡ Ok tt → n ≡ m.table.n → q ≡ m.table.q → state ≡ state_of m
      → Taking m bytes r results later shown

module _ (m : Monitor) (good : unsound m ≡ Ok tt) (bytes : List ℕ) where
  -- a sound monitor answers by what was read
  step_is : step_of m bytes ≡ step_reply (taken_by m bytes).answer m (taken_by m bytes)
  unfolding step_of
  step_is = ap (λ (a : Answer). sound_step a m bytes) good

  -- an accepted step
  pub step_accepted : (taken_by m bytes).answer ≡ Ok tt → step_of m bytes ≡ advanced m (taken_by m bytes)
  step_accepted e = step_is ∙ ap (λ (a : Answer). step_reply a m (taken_by m bytes)) e

  -- and a refused one
  pub step_refused : (r : Refusal) → (taken_by m bytes).answer ≡ Err r → step_of m bytes ≡ refused_step r m
  step_refused r e = step_is ∙ ap (λ (a : Answer). step_reply a m (taken_by m bytes)) e

-- the monitor after all entries
after_all : (m : Monitor) (s : Taken) (n : ℕ) → n ≡ m.table.n → state_of (monitor_after m s (walk_to m s n)) ≡ state_of (advanced m s).monitor
unfolding advanced
after_all m s n entries = ap (λ (k : ℕ). state_of (monitor_after m s (walk_to m s k))) entries

-- what the words of a monitor tell the reading of a step: its imports, and the earliest time
pub record Listened (q : ℕ) (state bytes : List ℕ) (r : Result ℕ Refusal) (told : List ℕ) : Type 0 where
  pub heard : (m : Monitor) → q ≡ m.table.q → state ≡ state_of m → Heard m.table m.last bytes r told

-- a step was heard by the imports that stand in the words
pub listened : {q earliest : ℕ} {state events bytes before : List ℕ} {r : Result ℕ Refusal} {told : List ℕ}
    → ((t : Table) → t.q ≡ q → events ≡ event_words t → before ≡ replicate 64 0 → Heard t earliest bytes r told)
    → earliest ≡ get_or state 3 0 → events ≡ take (388 - 324) (drop 324 state) → before ≡ replicate 64 0
    → Listened q state bytes r told
listened {state = state} {bytes = bytes} {r = r} {told = told} hear last lent none =
    record {
      heard = λ m imports words.
          subst (λ n. Heard m.table n bytes r told) (last ∙ ap (λ (l : List ℕ). get_or l 3 0) words ∙ last_there m)
          (hear m.table (sym imports) (lent ∙ ap (λ (l : List ℕ). take 64 (drop 324 l)) words ∙ events_part m) none);
    }

module _ (n q : ℕ) (bytes state results told : List ℕ) (heading : Result ℕ Refusal) (long : length results ≡ 128) (listen : Listened q state bytes heading told) where
  -- the answer is what the monitor reads
  answers : (m : Monitor) → q ≡ m.table.q → state ≡ state_of m → answer_of heading ≡ (taken_by m bytes).answer
  unfolding taken_by
  answers m imports words = (listen.heard m imports words).answer m.reported

  -- what is told, where the step is accepted
  told_is : (m : Monitor) → q ≡ m.table.q → state ≡ state_of m → (time : ℕ) → heading ≡ Ok time → told ≡ told_words (taken_by m bytes).told
  unfolding taken_by
  told_is m imports words time is = (listen.heard m imports words).told m.reported time is

  -- and when
  time_is : (m : Monitor) → q ≡ m.table.q → state ≡ state_of m → (time : ℕ) → heading ≡ Ok time → time ≡ (taken_by m bytes).time
  unfolding taken_by
  time_is m imports words time is = (listen.heard m imports words).time m.reported time is

  -- "A refused step returns the monitor unchanged": its words, and the slots as they were
  pub takes_refused : (answer : Answer) (r : Refusal) → answer ≡ Err r → heading ≡ Err r → Takes n q bytes answer state results state results
  unfolding shown_over
  takes_refused answer r refusing is =
      rw refusing (record {
        taken = λ m shape good entries imports words.
            let reply = step_refused m good bytes r (sym (answers m imports words) ∙ ap answer_of is) in
            record {
              answer = sym (ap (λ (x : Stepped). x.answer) reply);
              words = words ∙ sym (ap (λ (x : Stepped). state_of x.monitor) reply);
              slots = list_is 128 (λ j. get_or results j 0) 0 results long (λ j h. refl) ∙ sym (ap (λ (x : Stepped). shown_over x m.table.n results) reply);
            };
      })

  -- no step that is read has a time out of range
  pub takes_late : (time : ℕ) → heading ≡ Ok time → 2 ^ 47 ≤ time → Takes n q bytes (Err Refusal.Unsound) state results state results
  takes_late time is late =
      record {
        taken = λ m shape good entries imports words.
            absurd (omega (arith, (taken_fits m bytes (sym (answers m imports words) ∙ ap answer_of is)).time, time_is m imports words time is, late));
      }

  module _ {time : ℕ} {later shown : List ℕ} (is : heading ≡ Ok time) (slots : length shown ≡ 128)
      (adv : Advanced told n q time state results later shown) where
    -- the slots show the results: each of the first n, and the others stay
    slots_shown : (m : Monitor) (s : Taken) → n ≡ m.table.n
        → ((j : ℕ) → j < m.table.n → get_or shown j 0 ≡ outcome_word (result_in (walk_to m s n).results j))
        → shown ≡ shown_over (advanced m s) m.table.n results
    unfolding shown_over advanced
    slots_shown m s entries rows =
        list_is 128 (λ j. cond (true && ltb j m.table.n) (outcome_word (result_in (walk_to m s m.table.n).results j)) (get_or results j 0)) 0 shown slots
        (λ j h. elim (dec_lt j m.table.n) [
          | yes below ↦ rw (lt-ltb j m.table.n below) (rows j below ∙ ap (λ (k : ℕ). outcome_word (result_in (walk_to m s k).results j)) entries)
          | no past ↦ rw (le-ltb j m.table.n (omega arith)) (adv.rest j (omega arith))
        ])

    -- an accepted one leaves the monitor after it, and its results
    pub takes_accepted : Takes n q bytes (Ok tt) state results later shown
    unfolding advanced
    takes_accepted = record { taken = λ m shape good entries imports words. by m shape good entries imports words }
      where
        by : (m : Monitor) → Kept m → unsound m ≡ Ok tt → n ≡ m.table.n → q ≡ m.table.q → state ≡ state_of m
            → Taking m bytes (Ok tt) results later shown
        by m shape good entries imports words =
            let s = taken_by m bytes in
            let read = sym (answers m imports words) ∙ ap answer_of is in
            let reply = step_accepted m good bytes read in
            let ready : Ready m s told time = record { shape = shape; sound = good; fits = taken_fits m bytes read; heard = told_is m imports words time is; now = time_is m imports words time is } in
            let come = adv.all m s ready (taken_spoken m bytes read) entries imports words in
            record {
              answer = sym (ap (λ (x : Stepped). x.answer) reply);
              words = come.words ∙ after_all m s n entries ∙ sym (ap (λ (x : Stepped). state_of x.monitor) reply);
              slots = slots_shown m s entries (λ j h. come.rows j (omega arith)) ∙ sym (ap (λ (x : Stepped). shown_over x m.table.n results) reply);
            }

-- by what n and q were read, the words are looked at
pub took : {bytes : List ℕ} {r : Answer} {state results later shown : List ℕ} (n q : ℕ) → n ≡ get_or state 0 0 → q ≡ get_or state 1 0
    → Takes n q bytes r state results later shown → Took bytes r state results later shown
took n q entries imports takes =
    record {
      taken = λ m shape good words long.
          takes.taken m shape good (entries ∙ ap (λ (l : List ℕ). get_or l 0 0) words ∙ entries_count m)
          (imports ∙ ap (λ (l : List ℕ). get_or l 1 0) words ∙ imports_count m) words;
    }

-- words of no sound monitor
module _ {bytes : List ℕ} {r : Answer} {state results later shown : List ℕ} where
  -- there are not 452
  pub took_words : (length state ≡ 452 → ⊥) → Took bytes r state results later shown
  took_words none = record { taken = λ m shape good words long. absurd (none (ap length words ∙ length_state m)) }

  -- there are not 128 slots for the results
  pub took_slots : (length results ≡ 128 → ⊥) → Took bytes r state results later shown
  took_slots none = record { taken = λ m shape good words long. absurd (none long) }

  -- they have more entries than slots
  pub took_entries : 128 < get_or state 0 0 → Took bytes r state results later shown
  took_entries many =
      record { taken = λ m shape good words long. absurd (omega (arith, many, ap (λ (l : List ℕ). get_or l 0 0) words ∙ entries_count m, slots_enough m good)) }

  -- or more imports
  pub took_imports : 48 < get_or state 1 0 → Took bytes r state results later shown
  took_imports many =
      record { taken = λ m shape good words long. absurd (omega (arith, many, ap (λ (l : List ℕ). get_or l 1 0) words ∙ imports_count m, (sound_of m good).within.imports)) }

-- the answer, the words and the slots are determined
pub taking_same : {m : Monitor} {bytes : List ℕ} {r₁ r₂ : Answer} {results later₁ later₂ shown₁ shown₂ : List ℕ}
    → Taking m bytes r₁ results later₁ shown₁ → Taking m bytes r₂ results later₂ shown₂
    → ◌≡◌ {A = Answer × (List ℕ × List ℕ)} (r₁, (later₁, shown₁)) (r₂, (later₂, shown₂))
taking_same p q =
    let answers = p.answer ∙ sym q.answer in
    let words = p.words ∙ sym q.words in
    let slots = p.slots ∙ sym q.slots in
    λ i. (answers i, (words i, slots i))
