-- nimbra_start: a script read, and the words of a fresh monitor of its table.
use Rattle.std.specs.Prelude.{List, ◌≡◌, refl, ℕ, eqb, length, Ok, Err}
use Rattle.std.proofs.Common.{sym, ◌∙◌, eq-eqb, ne_eqb}
use Rattle.std.proofs.Math.Path.{ap}
use Rattle.refusals.specs.declared.Refusal.{Refusal}
use Rattle.refusals.specs.Answers.{Answer}
use Rattle.refusals.specs.Numbering.{number_of}
use Rattle.refusals.specs.Accepting.{not_accepted}
use Rattle.bits.specs.Reading.{Got, got, refused}
use Rattle.table.specs.declared.Table.{Table}
use Rattle.table.specs.Faults.{as_unsound, unsound_table}
use Rattle.script.specs.declared.Script.{Script}
use Rattle.script.specs.Reader.{script_of, script_reply, read_script}
use Rattle.roundtrip.proofs.ReadAgain.{read_sound}
use Rattle.monitor.specs.declared.Started.{Started}
use Rattle.monitor.specs.Keeping.{fresh, start_reply, start_on}
use Rattle.words.specs.Layout.{state_words, state_of}
use Rattle.words.specs.Packing.{packed, packed_whole}
use Rattle.door.specs.Leaving.{Left, if_size, Leaves, leaves_same, right_size, wrong_size_lem}

-- 0 and the words of a fresh monitor, or the reader's number and the words as they were
abbrev pub start_left : Answer → Table → List ℕ → Left
start_left (Ok _) t state = record { reply = 0; buffer = state_of (fresh t) }
start_left (Err r) t state = record { reply = number_of r; buffer = state }

-- what nimbra_start answers, and the words that it leaves
unfoldable pub start_door : List ℕ → List ℕ → Left
start_door script state = if_size (eqb (length state) state_words) state (start_left (read_script script).answer (read_script script).table state)

-- a script that is accepted has the table that was read
pub accepted_script : (s : List ℕ) → (read_script s).answer ≡ Ok tt → (end : ℕ) × (script_of s ≡ got (read_script s).table end)
unfolding read_script
accepted_script s good = by (script_of s) good
  where
    by : (g : Got Table) → (script_reply g).answer ≡ Ok tt → (end : ℕ) × (g ≡ got (script_reply g).table end)
    by (got t end) good = (end, refl)
    by (refused r) good = not_accepted r good

-- so the start on it is a fresh monitor
pub read_starts : (s : List ℕ) → (read_script s).answer ≡ Ok tt → start_on (read_script s).table ≡ record { answer = Ok tt; monitor = fresh (read_script s).table }
unfolding start_on unsound_table
read_starts s good =
    let t = (read_script s).table in
    let whole = accepted_script s good in
    ap (λ (a : Answer). start_reply (as_unsound a) t) (read_sound s t whole.0 whole.1)

module _ (script state : List ℕ) where
  -- the words are not 452
  pub start_size : (length state ≡ state_words → ⊥) → Leaves (start_door script state) 90 state
  unfolding start_door
  start_size other = wrong_size_lem state _ (ne_eqb (length state) state_words other)

  module _ (long : length state ≡ state_words) {read : Script} (is : read ≡ read_script script) where
    -- a script that was read leaves what its answer says
    by_answer : {answer : Answer} {n : ℕ} {later : List ℕ} → read.answer ≡ answer → Leaves (start_left answer (read_script script).table state) n later
        → Leaves (start_door script state) n later
    unfolding start_door
    by_answer said so =
        right_size state (eq-eqb (length state) state_words long)
        (leaves_same so (ap (λ (a : Answer). start_left a (read_script script).table state) (sym said ∙ ap (λ (x : Script). x.answer) is)))

    -- it is refused
    pub start_refused : {r : Refusal} {n : ℕ} → read.answer ≡ Err r → n ≡ number_of r → Leaves (start_door script state) n state
    start_refused bad number = by_answer bad (record { reply = number; buffer = refl })

    -- it is accepted
    pub start_done : {started : Started} {later : List ℕ} → read.answer ≡ Ok tt → started ≡ start_on read.table → later ≡ packed started.monitor state
        → Leaves (start_door script state) 0 later
    start_done good begun put =
        let accepted : (read_script script).answer ≡ Ok tt = sym (ap (λ (x : Script). x.answer) is) ∙ good in
        let monitor = ap (λ (x : Started). x.monitor) (begun ∙ ap (λ (x : Script). start_on x.table) is ∙ read_starts script accepted) in
        by_answer good (record { reply = refl; buffer = put ∙ sym (packed_whole _ state long refl) ∙ ap state_of monitor })
