-- What a new player prints of a whole stream is what document 01 says of it.
use Rattle.std.specs.Prelude.{Bool, ◌≡◌, refl, length, Ok}
use Rattle.std.proofs.Math.Bool.{true}
use mathlib.Core.List.{List, [], ◌∷◌, ◌++◌, append-nil, flatten}
use Rattle.std.proofs.Common.{sym, ◌∙◌, subst, not-suc-le-zero, arith, lt-ltb}
use Rattle.std.proofs.Math.Path.{ap}
use Prim.Native.Nat.{ℕ, zero, suc, ◌+◌, ◌^◌, ◌<◌, ◌≤◌}
use Rattle.values.specs.declared.Outcome.{Outcome}
use Rattle.bits.specs.Reading.{Got, got, refused}
use Rattle.table.specs.declared.Table.{Table}
use Rattle.table.specs.Tables.{Shaped}
use Rattle.table.specs.Faults.{table_fault}
use Rattle.table.specs.Sound.{sound_table}
use Rattle.script.specs.Reader.{script_of}
use Rattle.roundtrip.proofs.ReadAgain.{read_shaped, read_sound}
use Rattle.step.specs.Steps.{Step}
use Rattle.history.specs.History.{History}
use Rattle.history.specs.Offered.{offered, grown, history_of}
use Rattle.monitor.specs.declared.Started.{Started}
use Rattle.monitor.specs.declared.Stepped.{Stepped}
use Rattle.knowing.specs.Recalling.{recall_of}
use Rattle.knowing.proofs.Knowing.{start_recalls}
use Rattle.knowing.proofs.Answering.{reply_for, recall_table, recall_last, slot_result, step_answers}
use Rattle.stream.specs.Lines.{result_line}
use Rattle.stream.specs.Records.{whole, next_record, records_of}
use Rattle.stream.specs.Cutting.{rest_shorter, by_next}
use Rattle.stream.specs.Replay.{row_lines, step_lines, Counts, tallied, steps_from, script_lines, stream_lines, replayed}
use Rattle.replaying.specs.declared.Stage.{Stage}
use Rattle.replaying.specs.declared.Player.{Player}
use Rattle.replaying.specs.Moving.{text_kept, texts_of, sizes_of, reply_lines, most_steps, once_more, new_player, begun, onward, says, move_at, move_of, opening_line, opened_by, played}
use Rattle.replaying.specs.Texts.{text_kept_lem}
use Rattle.replaying.specs.Turning.{awaiting}
use Rattle.replaying.specs.Fitting.{new_fits}
use Rattle.replaying.specs.Pieces.{Plays, over, then, plays_same, over_waits, Run, reads, run_plays}
use Rattle.replaying.specs.Ending.{run_ends}

-- entries with the same labels and the same results have the same lines
rows_same : {one two : ℕ → List ℕ} {first second : ℕ} {these those : ℕ → Outcome} (n : ℕ) → ((k : ℕ) → k < n → one k ≡ two k) → first ≡ second → ((k : ℕ) → these k ≡ those k)
    → row_lines one first these n ≡ row_lines two second those n
unfolding row_lines
rows_same zero labels time results = refl
rows_same (suc k) labels time results =
    λ i. rows_same k (λ j less. labels j (omega arith)) time results i ++ result_line (time i) k (labels k (omega arith) i) (results k i)

-- the lines of a move after which all lines are printed are the last
last_lines : (p : Player) (input : List ℕ) {q : Player} {text rest : List ℕ} → move_of p true input ≡ says text q rest → q.stage ≡ Stage.Over → Plays p input text
last_lines p input {q} {text} {rest} e done = subst (Plays p input) (append-nil text) (then e (over (over_waits q true rest done)))

-- no step was offered yet
abbrev nothing : Counts
nothing = record { accepted = 0; refused = 0 }

-- no count goes past 64 bits while there are so many bytes to come
record Countable (c : Counts) (bytes : ℕ) : Type 0 where
  accepted : c.accepted + bytes < 2 ^ 64
  refused : c.refused + bytes < 2 ^ 64

-- the player that knows a history
abbrev knowing : List ℕ → Table → History → Counts → Player
knowing script t h c = awaiting (texts_of script) (sizes_of script) (recall_of t h) c.accepted c.refused

-- a player that begins knows the history of no step
begun_knowing : (script : List ℕ) (t : Table) → Shaped t → table_fault t ≡ Ok tt → begun script t ≡ knowing script t [] nothing
begun_knowing script t shaped good = ap (λ (s : Started). awaiting (texts_of script) (sizes_of script) s.monitor 0 0) (start_recalls t shaped good)

-- one more is counted, where there is room for it
counted : (count : ℕ) → count < most_steps → once_more count ≡ suc count
counted count less = rw (lt-ltb count most_steps less)

-- after one step more it knows the history after that step
onward_knowing : (script : List ℕ) (t : Table) (h : History) (c : Counts) (g : Got Step) → c.accepted < most_steps → c.refused < most_steps
    → onward (knowing script t h c) (reply_for t h g) ≡ knowing script t (grown h g) (tallied c g)
onward_knowing script t h c (got s at) few less =
    ap (λ (n : ℕ). knowing script t (s ∷ h) (record { accepted = n; refused = c.refused })) (counted c.accepted few)
onward_knowing script t h c (refused r) few less =
    ap (λ (n : ℕ). knowing script t h (record { accepted = c.accepted; refused = n })) (counted c.refused less)

-- a step counts as one, and takes two bytes or more
tallied_countable : (c : Counts) (g : Got Step) {bytes left : ℕ} → Countable c bytes → left + 2 ≤ bytes → Countable (tallied c g) left
tallied_countable c (got s at) few fewer = record { accepted = omega (arith, few.accepted); refused = omega (arith, few.refused) }
tallied_countable c (refused r) few fewer = record { accepted = omega (arith, few.accepted); refused = omega (arith, few.refused) }

-- the move of a new player, where a whole script comes next
script_says : (ended : Bool) (input script rest : List ℕ) → next_record input ≡ whole script rest → (g : Got Table) → script_of script ≡ g
    → move_of new_player ended input ≡ says (opening_line g) (opened_by new_player script g) rest
unfolding move_of
script_says ended input script rest e g read =
    ap (move_at Stage.Script new_player ended) e ∙ ap (λ (x : Got Table). says (opening_line x) (opened_by new_player script x) rest) read

-- the lines of a reply are those that document 01 says of the step
reply_says : (script : List ℕ) (t : Table) → table_fault t ≡ Ok tt → (h : History) (g : Got Step)
    → reply_lines (text_kept (texts_of script) (sizes_of script)) (reply_for t h g) ≡ step_lines t script h g
unfolding reply_lines
reply_says script t good h (got s at) =
    let within = (sound_table t good).within.entries in
    rw (recall_table t (s ∷ h)) (rows_same t.n (λ k less. text_kept_lem script k (omega arith)) (omega (arith, recall_last t s h)) (slot_result t (s ∷ h)))
reply_says script t good h (refused r) = refl

module _ (script : List ℕ) (t : Table) (shaped : Shaped t) (good : table_fault t ≡ Ok tt) where
  -- the move of a player that knows the history of what was offered before, where a whole record comes next
  step_says : (before : List (List ℕ)) (c : Counts) → c.accepted < most_steps → c.refused < most_steps → (ended : Bool) (input bytes rest : List ℕ)
      → next_record input ≡ whole bytes rest → let h = history_of t before in let g = offered t h bytes in
      move_of (knowing script t h c) ended input ≡ says (step_lines t script h g) (knowing script t (grown h g) (tallied c g)) rest
  unfolding move_of
  step_says before c few less ended input bytes rest e =
      let h = history_of t before in
      let p = knowing script t h c in
      let g = offered t h bytes in
      ap (move_at Stage.Steps p ended) e
      ∙ ap (λ (s : Stepped). played p s rest) (step_answers t shaped good before bytes)
      ∙ (λ i. says (reply_says script t good h g i) (onward_knowing script t h c g few less i) rest)

  -- what it prints is what document 01 says of the records that are left
  steps_play : (most : ℕ) (input : List ℕ) → length input < most → (before : List (List ℕ)) (c : Counts) → Countable c (length input)
      → Plays (knowing script t (history_of t before) c) input (steps_from t script (records_of input).cut (history_of t before) c (records_of input).records)
  unfolding steps_from history_of move_of
  steps_play zero input fewer before c few = absurd (not-suc-le-zero fewer)
  steps_play (suc most) input fewer before c few =
      let h = history_of t before in
      let p = knowing script t h c in
      by_next (λ r. Plays p input (steps_from t script r.cut h c r.records)) input
      (λ e. last_lines p input (ap (move_at Stage.Steps p true) e) refl)
      (λ e. last_lines p input (ap (move_at Stage.Steps p true) e) refl)
      (λ bytes rest e.
      let shorter = rest_shorter input e in
      then (step_says before c (omega (arith, few.accepted)) (omega (arith, few.refused)) true input bytes rest e)
      (steps_play most rest (omega arith) (bytes ∷ before) (tallied c (offered t h bytes)) (tallied_countable c (offered t h bytes) few (omega arith))))

-- what a new player prints of a stream, of fewer than 2^64 bytes, is what document 01 says of it
pub new_player_replays : (input : List ℕ) → length input < 2 ^ 64 → Plays new_player input (replayed input)
unfolding replayed move_of history_of
new_player_replays input few =
    by_next (λ r. Plays new_player input (stream_lines r.cut r.records)) input
    (λ e. last_lines new_player input (ap (move_at Stage.Script new_player true) e) refl)
    (λ e. last_lines new_player input (ap (move_at Stage.Script new_player true) e) refl)
    (λ script rest e. opened script rest e (script_of script) refl)
  where
    -- the rest, by what came of the script
    opened : (script rest : List ℕ) → next_record input ≡ whole script rest → (g : Got Table) → script_of script ≡ g
        → Plays new_player input (script_lines script (records_of rest).cut (records_of rest).records g)
    opened script rest e (got t at) read =
        let shaped = read_shaped script t at read in
        let good = read_sound script t at read in
        let shorter = rest_shorter input e in
        let lines = steps_from t script (records_of rest).cut [] nothing (records_of rest).records in
        then (script_says true input script rest e (got t at) read)
        (subst (λ (p : Player). Plays p rest lines) (sym (begun_knowing script t shaped good))
        (steps_play script t shaped good (suc (length rest)) rest (omega arith) [] nothing
        (record { accepted = omega arith; refused = omega arith })))
    opened script rest e (refused r) read = last_lines new_player input (script_says true input script rest e (refused r) read) refl

-- what the program prints, in whatever pieces the stream comes, is what document 01 says of the stream
pub run_replayed : {pieces : List (List ℕ)} {said : List ℕ} → Run new_player [] pieces said → length (flatten pieces) < 2 ^ 64 → said ≡ replayed (flatten pieces)
run_replayed {pieces} run few = plays_same (run_plays new_fits run) (new_player_replays (flatten pieces) few)

-- and every stream has such a run, so that what is said of runs is said of every stream
pub always_replayed : (input : List ℕ) → length input < 2 ^ 64 → Run new_player [] (input ∷ []) (replayed input)
unfolding flatten
always_replayed input few =
    let ended = run_ends new_player input in
    let run : Run new_player [] (input ∷ []) ended.said = reads {held = []} {piece = input} {pieces = []} ended.run in
    subst (Run new_player [] (input ∷ [])) (run_replayed run (rw (append-nil input) few) ∙ ap replayed (append-nil input)) run
