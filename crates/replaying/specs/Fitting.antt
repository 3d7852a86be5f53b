-- No move prints more than there is room for.
use Rattle.std.specs.Prelude.{Bool, true, false, ◌≡◌, refl, length, get_or, drop, Ok, Err}
use mathlib.Core.List.{List, [], ◌∷◌}
use Rattle.std.proofs.Math.Path.{subst}
use Prim.Native.Nat.{ℕ, zero, suc, ◌*◌, ◌^◌, ◌<◌, ◌≤◌}
use Rattle.std.proofs.Math.Decide.{dec_lt}
use native.Mathlib.Omega.{arith}
use Rattle.std.proofs.Common.{lt-ltb, le-ltb, length-take}
use Rattle.std.proofs.Math.ListN.{length-append}
use Rattle.std.proofs.lemmas.List.{get_or-replicate}
use Rattle.values.specs.declared.Truth.{Truth}
use Rattle.values.specs.declared.Outcome.{Outcome}
use Rattle.refusals.specs.declared.Refusal.{Refusal}
use Rattle.refusals.specs.Answers.{Answer}
use Rattle.refusals.specs.Numbering.{number_of}
use Rattle.refusals.specs.Accepting.{not_accepted}
use Rattle.bits.specs.Reading.{Got, got, refused}
use Rattle.table.specs.declared.Table.{Table}
use Rattle.table.specs.Limits.{limits}
use Rattle.script.specs.Reader.{script_of}
use Rattle.roundtrip.proofs.ReadAgain.{script_few}
use Rattle.step.specs.declared.Taken.{Taken}
use Rattle.monitor.specs.declared.Monitor.{Monitor}
use Rattle.monitor.specs.declared.Stepped.{Stepped}
use Rattle.monitor.specs.Keeping.{unsound}
use Rattle.monitor.specs.Stepping.{result_in, monitor_after, advanced, step_reply, taken_by, sound_step, step_of}
use Rattle.monitor.specs.Replying.{taken_time}
use Rattle.monitor.specs.Walking.{slots_enough}
use Rattle.lines.specs.Text.{decimal, refused_word, line}
use Rattle.lines.specs.Decimals.{decimal_length}
use Rattle.lines.specs.Spaced.{spaced, line_length}
use Rattle.lines.specs.Lengths.{number_length, script_length, script_refused_length}
use Rattle.stream.specs.Lines.{steps_word, refused_line, cut_line, last_line, word_for, word_line, result_line}
use Rattle.stream.specs.Records.{Next, end, stops, whole, next_record}
use Rattle.stream.specs.Replay.{row_lines, closing}
use Rattle.replaying.specs.declared.Stage.{Stage}
use Rattle.replaying.specs.declared.Player.{Player}
use Rattle.replaying.specs.Texts.{sizes_short}
use Rattle.replaying.specs.Moving.{text_at, text_kept, time_of, said_of, reply_lines, most_steps, once_more, accepted_after, refused_after, new_player, begun, onward, finished, Move, waits, says, opening_line, opened_by, script_move, step_move, move_at, move_of, move_room}

-- the line of a refused step
refused_length : (r : Refusal) → length (refused_line r) ≤ 11
unfolding refused_line spaced
refused_length r =
    let digits = number_length r in
    rw (line_length refused_word (decimal (number_of r) ∷ [])) (simp length-append (omega arith))

-- "cut"
cut_length : length cut_line ≤ 4
unfolding cut_line line
cut_length = omega arith

-- the last line: two counts of at most 20 digits
last_length : (good bad : ℕ) → good < 2 ^ 64 → bad < 2 ^ 64 → length (last_line good bad) ≤ 56
unfolding last_line spaced
last_length good bad few less =
    let one = decimal_length 19 good (omega arith) in
    let two = decimal_length 19 bad (omega arith) in
    rw (line_length steps_word (decimal good ∷ refused_word ∷ decimal bad ∷ [])) (simp length-append (omega arith))

-- the last lines
closing_length : (cut : Bool) (good bad : ℕ) → good < 2 ^ 64 → bad < 2 ^ 64 → length (closing cut (record { accepted = good; refused = bad })) ≤ 60
closing_length true good bad few less = let last = last_length good bad few less in simp length-append (omega (arith, cut_length))
closing_length false good bad few less = let last = last_length good bad few less in omega arith

-- "alarm" or "violated", or no word
word_short : (o : Outcome) → length (word_for o) ≤ 8
word_short Outcome.Nothing = omega arith
word_short (Outcome.Condition c) = omega arith
word_short (Outcome.Event b) = omega arith
word_short (Outcome.Numeric x) = omega arith
word_short (Outcome.Done b) = omega arith
word_short (Outcome.Raised true) = omega arith
word_short (Outcome.Raised false) = omega arith
word_short (Outcome.Property Truth.Undefined) = omega arith
word_short (Outcome.Property Truth.False) = omega arith
word_short (Outcome.Property Truth.True) = omega arith

module _ (time : ℕ) (early : time < 2 ^ 47) where
  -- "time, `alarm` or `violated`, entry number, label": 15 digits, 8 letters, 3 digits, 32 bytes, and what parts them
  word_length : (k : ℕ) (label word : List ℕ) → k < 1000 → length label ≤ limits.label → length word ≤ 8 → length (word_line time k label word) ≤ 62
  unfolding spaced
  word_length k label [] low short few = omega arith
  word_length k label (c ∷ cs) low short few =
      let digits = decimal_length 14 time (omega arith) in
      let number = decimal_length 2 k low in
      rw (line_length (decimal time) ((c ∷ cs) ∷ decimal k ∷ label ∷ [])) (simp length-append (omega arith))

  -- the line of a result
  result_length : (k : ℕ) (label : List ℕ) (o : Outcome) → k < 1000 → length label ≤ limits.label → length (result_line time k label o) ≤ 62
  unfolding result_line
  result_length k label o low short = word_length k label (word_for o) low short (word_short o)

  -- those of so many results
  rows_length : (label : ℕ → List ℕ) (result : ℕ → Outcome) (n : ℕ) → n ≤ 1000 → ((k : ℕ) → k < n → length (label k) ≤ limits.label)
      → length (row_lines label time result n) ≤ n * 62
  unfolding row_lines
  rows_length label result zero low short = omega arith
  rows_length label result (suc k) low short =
      let some = rows_length label result k (omega arith) (λ j below. short j (omega arith)) in
      let one = result_length k (label k) (result k) (omega arith) (short k (omega arith)) in
      simp length-append (omega arith)

-- what is known of an accepted step
pub record Bounded (s : Stepped) : Type 0 where
  pub entries : s.monitor.table.n ≤ limits.entries
  pub time : time_of s.monitor < 2 ^ 47

-- a step that was read, over a table that is sound
reply_bounded : (a : Answer) (m : Monitor) (s : Taken) → m.table.n ≤ limits.entries → s.time < 2 ^ 47 → (step_reply a m s).answer ≡ Ok tt
    → Bounded (step_reply a m s)
unfolding advanced monitor_after
reply_bounded (Ok _) m s few early good = record { entries = few; time = omega arith }
reply_bounded (Err r) m s few early good = not_accepted r good

-- and after 29
sound_bounded : (a : Answer) (m : Monitor) (bytes : List ℕ) → unsound m ≡ a → (sound_step a m bytes).answer ≡ Ok tt → Bounded (sound_step a m bytes)
sound_bounded (Ok _) m bytes sound good = reply_bounded (taken_by m bytes).answer m (taken_by m bytes) (slots_enough m sound) (taken_time m bytes _ refl) good
sound_bounded (Err r) m bytes sound good = not_accepted r good

-- an accepted step has no more entries than there are slots, and a time below 2^47
step_bounded : (m : Monitor) (bytes : List ℕ) → (step_of m bytes).answer ≡ Ok tt → Bounded (step_of m bytes)
unfolding step_of
step_bounded m bytes good = sound_bounded (unsound m) m bytes refl good

-- what is printed of a step's reply, by its answer
said_length : (label : ℕ → List ℕ) (s : Stepped) (a : Answer) → ((k : ℕ) → k < limits.slots → length (label k) ≤ limits.label)
    → (a ≡ Ok tt → Bounded s) → length (said_of label s a) ≤ move_room
said_length label s (Ok _) short bounded =
    let b = bounded refl in
    let n = s.monitor.table.n in
    let rows = rows_length (time_of s.monitor) b.time label (result_in s.results) n (omega arith) (λ k below. short k (omega arith)) in
    omega arith
said_length label s (Err r) short bounded = let line = refused_length r in omega arith

-- what is printed of a step's reply has room
pub reply_fits : (texts sizes : List ℕ) → ((k : ℕ) → k < limits.slots → get_or sizes k 0 ≤ limits.label) → (m : Monitor) (bytes : List ℕ)
    → length (reply_lines (text_kept texts sizes) (step_of m bytes)) ≤ move_room
unfolding reply_lines
reply_fits texts sizes short m bytes =
    said_length (text_kept texts sizes) (step_of m bytes) (step_of m bytes).answer
    (λ k below. omega (arith, length-take (get_or sizes k 0) (drop (text_at k) texts), short k below))
    (step_bounded m bytes)

-- a player whose texts are no longer than a label, and whose counts have 64 bits
pub record Fit (p : Player) : Type 0 where
  pub sizes : (k : ℕ) → k < limits.slots → get_or p.sizes k 0 ≤ limits.label
  pub accepted : p.accepted < 2 ^ 64
  pub refused : p.refused < 2 ^ 64

-- a new player is such a one
pub new_fits : Fit new_player
new_fits = record { sizes = λ k below. rw (get_or-replicate {A = ℕ} limits.slots k 0 0 below) (omega arith); accepted = omega arith; refused = omega arith }

-- and one that has its script
begun_fits : (script : List ℕ) (t : Table) → Fit (begun script t)
begun_fits script t = record { sizes = λ k below. sizes_short script k; accepted = omega arith; refused = omega arith }

-- one more counted still has 64 bits
once_fits : (count : ℕ) → count < 2 ^ 64 → once_more count < 2 ^ 64
once_fits count few =
    elim (dec_lt count most_steps) [
      | yes l ↦ rw (lt-ltb count most_steps l) (omega arith)
      | no h ↦ rw (le-ltb count most_steps (omega arith)) (omega arith)
    ]

-- so have both counts after a step
accepted_fits : (a : Answer) (count : ℕ) → count < 2 ^ 64 → accepted_after a count < 2 ^ 64
accepted_fits (Ok _) count few = once_fits count few
accepted_fits (Err r) count few = few

refused_fits : (a : Answer) (count : ℕ) → count < 2 ^ 64 → refused_after a count < 2 ^ 64
refused_fits (Ok _) count few = few
refused_fits (Err r) count few = once_fits count few

-- a move that has room, and leaves such a player
abbrev Fits : Move → Type 0
Fits waits = Unit
Fits (says text q rest) = (length text ≤ move_room) × Fit q

module _ (p : Player) (fit : Fit p) where
  -- a player that has printed all its lines
  finished_fits : Fit (finished p)
  finished_fits = record { sizes = fit.sizes; accepted = fit.accepted; refused = fit.refused }

  -- a player after a step
  onward_fits : (s : Stepped) → Fit (onward p s)
  onward_fits s =
      record {
        sizes = fit.sizes;
        accepted = accepted_fits s.answer p.accepted fit.accepted;
        refused = refused_fits s.answer p.refused fit.refused;
      }

  -- the move of a script
  opened_fits : (script rest : List ℕ) (m : Got Table) → ((t : Table) (at : ℕ) → m ≡ got t at → t.n ≤ limits.entries)
      → Fits (says (opening_line m) (opened_by p script m) rest)
  opened_fits script rest (got t at) few =
      let entries = few t at refl in
      let line = script_length 2 t.n (omega arith) in
      (omega arith, begun_fits script t)
  opened_fits script rest (refused r) few = let line = script_refused_length r in (omega arith, finished_fits)

  -- a move before the script is read
  script_fits : (ended : Bool) (next : Next) → Fits (script_move p ended next)
  script_fits ended (whole script rest) = opened_fits script rest (script_of script) (script_few script)
  script_fits true end = (omega (arith, cut_length), finished_fits)
  script_fits true stops = (omega (arith, cut_length), finished_fits)
  script_fits false end = tt
  script_fits false stops = tt

  -- and one after
  step_fits : (ended : Bool) (next : Next) → Fits (step_move p ended next)
  step_fits ended (whole bytes rest) = (reply_fits p.texts p.sizes fit.sizes p.monitor bytes, onward_fits (step_of p.monitor bytes))
  step_fits true end = (omega (arith, closing_length false p.accepted p.refused fit.accepted fit.refused), finished_fits)
  step_fits true stops = (omega (arith, closing_length true p.accepted p.refused fit.accepted fit.refused), finished_fits)
  step_fits false end = tt
  step_fits false stops = tt

  -- any move, by the stage
  at_fits : (stage : Stage) (ended : Bool) (next : Next) → Fits (move_at stage p ended next)
  at_fits Stage.Script ended next = script_fits ended next
  at_fits Stage.Steps ended next = step_fits ended next
  at_fits Stage.Over ended next = tt

  module _ {text rest : List ℕ} {q : Player} (ended : Bool) (input : List ℕ) (moved : move_of p ended input ≡ says text q rest) where
    -- a move and the player after it
    both_fit : Fits (says text q rest)
    unfolding move_of
    both_fit = subst Fits moved (at_fits p.stage ended (next_record input))

    -- no move prints more than there is room for
    pub move_fits : length text ≤ move_room
    move_fits = both_fit.0

    -- and the player after it is such a one again
    pub fit_stays : Fit q
    fit_stays = both_fit.1
