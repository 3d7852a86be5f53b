-- A sound monitor comes back from its words, and 29 for words is 29 for the monitor that they are.
use Rattle.std.specs.Prelude.{Bool, true, ◌&&◌, List, ◌≡◌, refl, ℕ, ◌+◌, ◌<◌, length, Ok}
use Rattle.std.proofs.Math.Bool.{false, not}
use Rattle.std.proofs.Math.Path.{sym, ap}
use Rattle.std.proofs.Common.{◌∙◌, arith, eq-eqb, eqb-true}
use Rattle.std.proofs.Math.Decide.{dec_lt}
use Rattle.std.proofs.Math.Dec.{eqb}
use Rattle.replies.specs.Plain.{never, both_true}
use Rattle.values.specs.declared.Truth.{Truth}
use Rattle.values.specs.declared.Number.{Number}
use Rattle.values.specs.Numbers.{in_range, fits_n}
use Rattle.refusals.specs.declared.Refusal.{Refusal}
use Rattle.refusals.specs.Numbering.{unless, and_then, first_fault}
use Rattle.refusals.specs.Accepting.{unless_accepted, accepted_first, accepted_second, none_at_fault, no_fault}
use Rattle.bits.specs.Lists.{length_list}
use Rattle.bits.specs.Filled.{list_is}
use Rattle.table.specs.declared.Entry.{Entry}
use Rattle.table.specs.declared.Table.{Table}
use Rattle.table.specs.Limits.{limits}
use Rattle.table.specs.Kinds.{operands_of}
use Rattle.table.specs.Tables.{entry_at, is_event, initial_of, number_at, zero_constant, is_undefined, every_slot, unused_slots}
use Rattle.table.specs.Sound.{Sound}
use Rattle.sound.specs.Slots.{slot_fails}
use Rattle.sound.specs.Firsts.{number_said_lem}
use Rattle.meaning.specs.Places.{places_of}
use Rattle.meaning.specs.Inside.{Inside, places_inside}
use Rattle.kinds.specs.Apart.{constant_of, apart_of}
use Rattle.monitor.specs.declared.Monitor.{Monitor}
use Rattle.monitor.specs.Keeping.{unsound}
use Rattle.monitor.specs.Laws.{sound_of, kept_of}
use Rattle.words.specs.Words.{number_word, entry_word}
use Rattle.words.specs.Layout.{Kept, word_at, state_words, state_of}
use Rattle.words.specs.Standing.{length_state, word_there, entries_count, imports_count, variables_count, last_there, entry_there, cell_there, held_there, initial_there, event_there, truth_there}
use Rattle.words.specs.Unpacking.{number_of_word, truth_of_word, entry_of_word, word_in, numbers_in, entries_in, cells_in, events_in, reported_in, monitor_in, word_fault, state_fault}
use Rattle.words.specs.Again.{number_again, truth_again, event_again, entry_back, constant_fits}

module _ (t : Table) (sound : Sound t) where
  -- the unused slots of entries and of variables
  unused : (every_slot t.n limits.slots (λ k. zero_constant (operands_of (entry_at t k))) ≡ true)
      × (every_slot t.v limits.variables (λ x. is_undefined (initial_of t x)) ≡ true)
  unfolding unused_slots
  unused =
      let entries = every_slot t.n limits.slots (λ k. zero_constant (operands_of (entry_at t k))) in
      let imports = every_slot t.q limits.imports (λ i. not (is_event t i)) in
      let variables = every_slot t.v limits.variables (λ x. is_undefined (initial_of t x)) in
      let all = both_true (entries && imports) variables sound.unused in
      ((both_true entries imports all.0).0, all.1)

  -- an entry in a slot comes back: by 7 and 13, or as the constant 0 where the slot is unused
  pub slot_again : (k : ℕ) → k < limits.slots → entry_of_word (entry_word (entry_at t k)) ≡ entry_at t k
  unfolding apart_of
  slot_again k slot = entry_back (entry_at t k) (λ other. by other (dec_lt k t.n))
    where
      by : zero_constant (operands_of (entry_at t k)) ≡ false → Dec (k < t.n)
          → Inside (places_of (entry_at t k)) × (in_range (constant_of (apart_of (entry_at t k)).first) ≡ true)
      by other (yes h) = (
        places_inside t sound.within k (omega arith) (entry_at t k) (sound.operands k h),
        constant_fits t k (operands_of (entry_at t k)) (sound.operands k h),
      )
      by other (no h) = never (sym (slot_fails t.n limits.slots (λ j. zero_constant (operands_of (entry_at t j))) k slot (omega arith) other) ∙ unused.0)

  -- the number that a variable starts with is in range: by 13, or undefined where the slot is unused
  pub initial_fits : (x : ℕ) → x < limits.variables → fits_n (initial_of t x) ≡ true
  initial_fits x slot = by (initial_of t x) refl (dec_lt x t.v)
    where
      by : (n : Number) → initial_of t x ≡ n → Dec (x < t.v) → fits_n n ≡ true
      by Number.Undefined is h = refl
      by (Number.Whole z) is (yes h) =
          ap fits_n (sym is) ∙ unless_accepted (fits_n (initial_of t x)) Refusal.Range (sym (number_said_lem (initial_of t x)) ∙ sound.numbers x h)
      by (Number.Whole z) is (no h) =
          never (sym (slot_fails t.v limits.variables (λ y. is_undefined (initial_of t y)) x slot (omega arith) (ap is_undefined is)) ∙ unused.1)

module _ (m : Monitor) (kept : Kept m) where
  -- the sorts of the imports come back
  events_again : events_in (state_of m) ≡ m.table.events
  unfolding events_in is_event
  events_again =
      sym
      (list_is limits.imports _ false m.table.events kept.table.events
      (λ i h. sym (ap (λ (w : ℕ). eqb w 1) (event_there m i (omega arith)) ∙ event_again (is_event m.table i))))

  -- what the entries remember comes back
  cells_again : cells_in (state_of m) ≡ m.cells
  unfolding cells_in
  cells_again = sym (list_is limits.slots _ 0 m.cells kept.cells (λ k h. sym (cell_there m k h)))

  -- the last reported values come back
  reported_again : reported_in (state_of m) ≡ m.reported
  unfolding reported_in
  reported_again =
      sym
      (list_is limits.imports _ Truth.Undefined m.reported kept.reported
      (λ i h. ap (λ (c : Truth). c) (sym (ap truth_of_word (truth_there m i (omega arith)) ∙ truth_again _))))

  -- numbers in range come back, wherever they stand
  numbers_again : (from : ℕ) (slots : List Number) → length slots ≡ limits.variables
      → ((x : ℕ) → x < limits.variables → word_in (state_of m) (from + x) ≡ number_word (number_at slots x))
      → ((x : ℕ) → x < limits.variables → fits_n (number_at slots x) ≡ true)
      → numbers_in (state_of m) from ≡ slots
  unfolding numbers_in
  numbers_again from slots long stand fit =
      sym
      (list_is limits.variables _ Number.Undefined slots long
      (λ x h. ap (λ (n : Number). n) (sym (ap number_of_word (stand x h) ∙ number_again (number_at slots x) (fit x h)))))

  -- the entries of a sound table come back
  entries_again : Sound m.table → entries_in (state_of m) ≡ m.table.entries
  unfolding entries_in entry_at
  entries_again sound =
      sym
      (list_is limits.slots _ (Entry.ImportedCondition 0) m.table.entries kept.table.entries
      (λ k h. ap (λ (e : Entry). e) (sym (ap entry_of_word (entry_there m k h) ∙ slot_again m.table sound k h))))

  -- a sound monitor comes back from its words
  pub monitor_again : unsound m ≡ Ok tt → monitor_in (state_of m) ≡ m
  unfolding monitor_in initial_of
  monitor_again good =
      let sound = sound_of m good in
      let entries = entries_again sound in
      let variables = numbers_again 292 m.table.variables kept.table.variables (initial_there m) (initial_fits m.table sound) in
      let held = numbers_again 260 m.held kept.held (held_there m) (kept_of m good).held in
      λ i. record {
        table =
            record {
              n = entries_count m i;
              q = imports_count m i;
              v = variables_count m i;
              events = events_again i;
              variables = variables i;
              entries = entries i;
            };
        last = last_there m i;
        reported = reported_again i;
        held = held i;
        cells = cells_again i;
      }

-- the monitor in words, of parts that were each read from their place
pub parts_in : (words : List ℕ) {n q v last : ℕ} {events : List Bool} {variables held : List Number} {entries : List Entry}
    {reported : List Truth} {cells : List ℕ}
    → n ≡ word_in words 0
    → q ≡ word_in words 1
    → v ≡ word_in words 2
    → events ≡ events_in words
    → variables ≡ numbers_in words 292
    → entries ≡ entries_in words
    → last ≡ word_in words 3
    → reported ≡ reported_in words
    → held ≡ numbers_in words 260
    → cells ≡ cells_in words
    → record {
      table = record { n = n; q = q; v = v; events = events; variables = variables; entries = entries };
      last = last;
      reported = reported;
      held = held;
      cells = cells;
    } ≡ monitor_in words
unfolding monitor_in
parts_in words n q v events variables entries last reported held cells =
    λ i. record {
      table = record { n = n i; q = q i; v = v i; events = events i; variables = variables i; entries = entries i };
      last = last i;
      reported = reported i;
      held = held i;
      cells = cells i;
    }

-- whatever the words are, the arrays of the monitor in them have their slots
pub kept_in : (words : List ℕ) → Kept (monitor_in words)
unfolding monitor_in events_in numbers_in entries_in reported_in cells_in
kept_in words =
    record {
      table =
          record {
            entries = length_list limits.slots _;
            events = length_list limits.imports _;
            variables = length_list limits.variables _;
          };
      reported = length_list limits.imports _;
      held = length_list limits.variables _;
      cells = length_list limits.slots _;
    }

-- words without fault are those of the monitor in them, and it is sound
pub state_sound : (words : List ℕ) → state_fault words ≡ Ok tt
    → (words ≡ state_of (monitor_in words)) × (unsound (monitor_in words) ≡ Ok tt)
unfolding state_fault state_of
state_sound words good =
    let long = unless (eqb (length words) state_words) Refusal.Unsound in
    let same = first_fault state_words (word_fault words) in
    let rest = accepted_second long (and_then same (unsound (monitor_in words))) good in
    let each = none_at_fault state_words (word_fault words) (accepted_first same (unsound (monitor_in words)) rest) in (
      list_is state_words (word_at (monitor_in words)) 0 words
          (eqb-true _ _ (unless_accepted (eqb (length words) state_words) Refusal.Unsound (accepted_first long _ good)))
          (λ j h. eqb-true _ _ (unless_accepted (eqb (word_in words j) (word_at (monitor_in words) j)) Refusal.Unsound (each j h))),
      accepted_second same (unsound (monitor_in words)) rest,
    )

-- the words of a sound monitor are without fault
pub sound_state : (m : Monitor) → Kept m → unsound m ≡ Ok tt → state_fault (state_of m) ≡ Ok tt
unfolding state_fault
sound_state m kept good =
    let again = monitor_again m kept good in
    let faultless : (j : ℕ) → j < state_words → word_fault (state_of m) j ≡ Ok tt =
    λ j h. ap (λ (b : Bool). unless b Refusal.Unsound) (eq-eqb _ _ (word_there m j h ∙ ap (λ (o : Monitor). word_at o j) (sym again))) in
    rw (eq-eqb (length (state_of m)) state_words (length_state m), no_fault state_words (word_fault (state_of m)) faultless) (ap unsound again ∙ good)
