-- From a start on, whatever is offered as steps: the words are those of the monitor that the functions by value give, which never falls
-- under 29, and the results are what the logic says of the whole history.
use Rattle.std.specs.Prelude.{Bool, ◌≡◌, ℕ, ◌<◌, Ok}
use mathlib.Core.List.{List, [], ◌∷◌}
use Rattle.std.proofs.Common.{sym, ◌∙◌, eq-eqb}
use Rattle.std.proofs.Math.Path.{ap, subst}
use Rattle.std.proofs.Math.ListN.{length, get_or}
use Rattle.std.proofs.lemmas.List.{length-replicate}
use Rattle.values.specs.declared.Truth.{Truth}
use Rattle.bits.specs.Reading.{got, answered}
use Rattle.bits.specs.Lists.{length_list, get_d_list}
use Rattle.table.specs.declared.Table.{Table}
use Rattle.table.specs.Limits.{limits}
use Rattle.table.specs.Sound.{sound_table}
use Rattle.script.specs.declared.Script.{Script}
use Rattle.script.specs.Reader.{script_of, script_reply, read_script}
use Rattle.roundtrip.proofs.ReadAgain.{read_shaped, read_sound}
use Rattle.parts.specs.Shown.{outcome_number}
use Rattle.step.specs.Steps.{Step}
use Rattle.history.specs.History.{result_at}
use Rattle.history.specs.Offered.{offered, grown, history_of}
use Rattle.monitor.specs.declared.Monitor.{Monitor}
use Rattle.monitor.specs.declared.Started.{Started}
use Rattle.monitor.specs.declared.Stepped.{Stepped}
use Rattle.monitor.specs.Keeping.{unsound, fresh, start_on}
use Rattle.monitor.specs.Stepping.{result_in, step_of}
use Rattle.knowing.specs.Recalling.{recall_of}
use Rattle.knowing.proofs.Knowing.{start_recalls}
use Rattle.knowing.specs.Fitting.{HistoryFits}
use Rattle.knowing.specs.Arriving.{history_fits}
use Rattle.knowing.proofs.Ranges.{result_fits}
use Rattle.knowing.proofs.Staying.{recall_sound}
use Rattle.knowing.proofs.Answering.{reply_for, reply_answer, reply_monitor, slot_result, step_answers}
use Rattle.words.specs.Words.{outcome_word}
use Rattle.words.specs.Layout.{Kept, state_words, state_of}
use Rattle.words.specs.Unpacking.{state_fault}
use Rattle.words.specs.Restored.{sound_state}
use Rattle.inplace.specs.Staying.{Standing, step_stands}
use Rattle.door.specs.Leaving.{Left, if_size}
use Rattle.door.specs.Starting.{start_left, start_door, read_starts}
use Rattle.door.specs.Telling.{result_told, told_again}
use Rattle.door.specs.Stepping.{StepLeft, slot_count, result_words, stepped_left, step_door, StepLeaves, Held, step_of_words}

-- the monitor after byte strings were offered as steps, by value; the strings stand the latest first
unfoldable pub monitor_run : Table → List (List ℕ) → Monitor
monitor_run t [] = (start_on t).monitor
monitor_run t (bytes ∷ before) = (step_of (monitor_run t before) bytes).monitor

-- the same through the door: a start, then nimbra_step after nimbra_step over the same two buffers
unfoldable pub door_run : List ℕ → List ℕ → List ℕ → List (List ℕ) → StepLeft
door_run script state results [] = record { reply = (start_door script state).reply; state = (start_door script state).buffer; results = results }
door_run script state results (bytes ∷ before) = let left = door_run script state results before in step_door left.state bytes left.results

-- there is a word for each of the 128 slots
results_long : (m : Monitor) (bytes : List ℕ) → length (stepped_left m bytes).results ≡ slot_count
unfolding stepped_left result_words
results_long m bytes = length_list slot_count _

module _ (script : List ℕ) (t : Table) (end : ℕ) (whole : script_of script ≡ got t end) where
  -- the script is accepted, with that table
  read_is : read_script script ≡ record { answer = Ok tt; table = t }
  unfolding read_script
  read_is = ap script_reply whole

  -- its start
  started : start_on t ≡ record { answer = Ok tt; monitor = recall_of t [] }
  started = start_recalls t (read_shaped script t end whole) (read_sound script t end whole)

  -- is a fresh monitor
  start_fresh : (start_on t).monitor ≡ fresh t
  start_fresh =
      subst (λ (x : Script). (start_on x.table).monitor ≡ fresh x.table) read_is
      (ap (λ (x : Started). x.monitor) (read_starts script (ap (λ (x : Script). x.answer) read_is)))

  -- which has its slots
  fresh_kept : Kept (fresh t)
  fresh_kept =
      record {
        table = read_shaped script t end whole;
        reported = length-replicate {A = Truth} limits.imports Truth.Undefined;
        held = (read_shaped script t end whole).variables;
        cells = length-replicate {A = ℕ} limits.slots 0;
      }

  -- from a start on no monitor falls under 29
  run_stands : (strings : List (List ℕ)) → Standing (monitor_run t strings)
  unfolding monitor_run
  run_stands [] =
      record {
        shape = subst Kept (sym start_fresh) fresh_kept;
        sound = ap (λ (x : Started). unsound x.monitor) started
            ∙ recall_sound t (read_shaped script t end whole) (read_sound script t end whole) [] tt;
      }
  run_stands (bytes ∷ before) = step_stands (monitor_run t before) (run_stands before) bytes

  -- and it is the one that knows the whole history
  pub run_knows : (strings : List (List ℕ)) → monitor_run t strings ≡ recall_of t (history_of t strings)
  unfolding monitor_run history_of
  run_knows [] = ap (λ (x : Started). x.monitor) started
  run_knows (bytes ∷ before) =
      ap (λ m. (step_of m bytes).monitor) (run_knows before)
      ∙ ap (λ (x : Stepped). x.monitor) (step_answers t (read_shaped script t end whole) (read_sound script t end whole) before bytes)
      ∙ reply_monitor t (history_of t before) (offered t (history_of t before) bytes)

  module _ (state results : List ℕ) (long : length state ≡ state_words) (room : length results ≡ slot_count) where
    -- nimbra_start leaves the words of a fresh monitor
    pub start_words : start_door script state ≡ record { reply = 0; buffer = state_of (monitor_run t []) }
    unfolding start_door monitor_run
    start_words =
        ap (λ (b : Bool). if_size b state (start_left (read_script script).answer (read_script script).table state)) (eq-eqb (length state) state_words long)
        ∙ ap (λ (x : Script). start_left x.answer x.table state) read_is
        ∙ ap (λ (m : Monitor). record { reply = 0; buffer = state_of m }) (sym start_fresh)

    -- one step more over words of the monitor by value is the monitor's step
    one_more : (before : List (List ℕ)) (bytes : List ℕ) {words : List ℕ} (slots : List ℕ) → words ≡ state_of (monitor_run t before) → length slots ≡ slot_count
        → step_door words bytes slots ≡ stepped_left (monitor_run t before) bytes
    one_more before bytes slots same enough =
        ap (λ (l : List ℕ). step_door l bytes slots) same
        ∙ step_of_words (monitor_run t before) (run_stands before).shape (run_stands before).sound bytes slots enough

    -- after any strings, the words are those of the monitor by value, and the slots are 128
    run_buffers : (strings : List (List ℕ)) → ((door_run script state results strings).state ≡ state_of (monitor_run t strings))
        × (length (door_run script state results strings).results ≡ slot_count)
    unfolding door_run monitor_run stepped_left
    run_buffers [] = (ap (λ (x : Left). x.buffer) start_words, room)
    run_buffers (bytes ∷ before) =
        let so = run_buffers before in
        let step = one_more before bytes _ so.0 so.1 in
        (ap (λ (x : StepLeft). x.state) step, ap (λ (x : StepLeft). length x.results) step ∙ results_long (monitor_run t before) bytes)

    -- so the words are those of the monitor by value
    pub run_words : (strings : List (List ℕ)) → (door_run script state results strings).state ≡ state_of (monitor_run t strings)
    run_words strings = (run_buffers strings).0

    -- and each step is the monitor's step
    pub run_steps : (before : List (List ℕ)) (bytes : List ℕ) → door_run script state results (bytes ∷ before) ≡ stepped_left (monitor_run t before) bytes
    unfolding door_run
    run_steps before bytes = one_more before bytes _ (run_buffers before).0 (run_buffers before).1

    -- 29 is never given
    pub run_sound : (strings : List (List ℕ)) → state_fault (door_run script state results strings).state ≡ Ok tt
    run_sound strings =
        ap state_fault (run_words strings) ∙ sound_state (monitor_run t strings) (run_stands strings).shape (run_stands strings).sound

    -- so nimbra_step_held does what nimbra_step does
    pub run_held : (before : List (List ℕ)) (bytes : List ℕ) {n : ℕ} {later shown : List ℕ}
        → Held (door_run script state results before).state bytes (door_run script state results before).results n later shown
        → StepLeaves (door_run script state results (bytes ∷ before)) n later shown
    unfolding door_run
    run_held before bytes held = held.sound (run_sound before)

    -- what the definition of a step makes of the bytes, after these strings
    abbrev reply : List (List ℕ) → List ℕ → Stepped
    reply before bytes = reply_for t (history_of t before) (offered t (history_of t before) bytes)

    -- it is what the step answers
    run_answers : (before : List (List ℕ)) (bytes : List ℕ) → step_of (monitor_run t before) bytes ≡ reply before bytes
    run_answers before bytes =
        ap (λ m. step_of m bytes) (run_knows before) ∙ step_answers t (read_shaped script t end whole) (read_sound script t end whole) before bytes

    -- a step's number is the definition's
    pub run_numbers : (before : List (List ℕ)) (bytes : List ℕ)
        → (door_run script state results (bytes ∷ before)).reply ≡ outcome_number (answered (offered t (history_of t before) bytes))
    unfolding stepped_left
    run_numbers before bytes =
        ap (λ (x : StepLeft). x.reply) (run_steps before bytes)
        ∙ ap (λ (x : Stepped). outcome_number x.answer) (run_answers before bytes)
        ∙ ap outcome_number (reply_answer t (history_of t before) (offered t (history_of t before) bytes))

    -- "at every accepted step, each rule's result equals what the ... logic says of the whole accepted history"
    pub run_results : (before : List (List ℕ)) (bytes : List ℕ) (s : Step) (next : ℕ) → offered t (history_of t before) bytes ≡ got s next
        → (k : ℕ) → k < slot_count → get_or (door_run script state results (bytes ∷ before)).results k 0 ≡ outcome_word (result_at t (s ∷ history_of t before) k)
    unfolding stepped_left result_words
    run_results before bytes s next read k slot =
        ap (λ (x : StepLeft). get_or x.results k 0) (run_steps before bytes)
        ∙ get_d_list slot_count _ k 0 slot
        ∙ ap (λ (x : Stepped). outcome_word (result_in x.results k)) (run_answers before bytes ∙ ap (reply_for t (history_of t before)) read)
        ∙ ap outcome_word (slot_result t (s ∷ history_of t before) k)

    -- and a caller who reads the word has just that result
    pub run_told : (before : List (List ℕ)) (bytes : List ℕ) (s : Step) (next : ℕ) → offered t (history_of t before) bytes ≡ got s next
        → (k : ℕ) → k < slot_count → result_told (get_or (door_run script state results (bytes ∷ before)).results k 0) ≡ result_at t (s ∷ history_of t before) k
    unfolding history_of
    run_told before bytes s next read k slot =
        let fits : HistoryFits (s ∷ history_of t before) = subst HistoryFits (ap (grown (history_of t before)) read) (history_fits t (bytes ∷ before)) in
        let ranged = result_fits t (read_shaped script t end whole) (sound_table t (read_sound script t end whole)) (s ∷ history_of t before) fits k in
        ap result_told (run_results before bytes s next read k slot) ∙ told_again (result_at t (s ∷ history_of t before) k) ranged
