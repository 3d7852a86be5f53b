-- What a player does with the bytes in front of it: a move is a whole record, or the end of the input.
use Rattle.std.specs.Prelude.{Bool, true, false, cond, List, [], ◌++◌, ◌≡◌, ℕ, suc, ◌-◌, ◌*◌, ◌/◌, ◌%◌, ◌^◌, ◌<◌, ◌≤◌, ltb, length, get_or, take, drop, replicate, Ok, Err}
use Rattle.refusals.specs.Answers.{Answer}
use Rattle.bits.specs.Bits.{list_to}
use Rattle.bits.specs.Reading.{Got, got, refused}
use Rattle.table.specs.declared.Table.{Table}
use Rattle.table.specs.Limits.{limits}
use Rattle.table.specs.Tables.{empty_table}
use Rattle.script.specs.Reader.{script_of}
use Rattle.monitor.specs.declared.Monitor.{Monitor}
use Rattle.monitor.specs.declared.Stepped.{Stepped}
use Rattle.monitor.specs.Keeping.{start_on}
use Rattle.monitor.specs.Stepping.{result_in, step_of}
use Rattle.lines.specs.Text.{script_line, script_refused_line}
use Rattle.lines.specs.Laying.{Lays}
use Rattle.stream.specs.Lines.{refused_line, cut_line}
use Rattle.stream.specs.Records.{Next, end, stops, whole, next_record}
use Rattle.stream.specs.Replay.{row_lines, label_text, closing}
use Rattle.replaying.specs.declared.Stage.{Stage}
use Rattle.replaying.specs.declared.Player.{Player}
use Rattle.replaying.specs.declared.Turn.{Turn}

-- where the text of entry k's label begins
abbrev pub text_at : ℕ → ℕ
text_at k = limits.label * k

-- the text of entry k's label, by the texts and sizes that are kept
abbrev pub text_kept : List ℕ → List ℕ → ℕ → List ℕ
text_kept texts sizes k = take (get_or sizes k 0) (drop (text_at k) texts)

-- the texts of a script's labels, 32 bytes for each entry, zeros where a text is shorter
abbrev pub texts_of : List ℕ → List ℕ
texts_of script = list_to 4096 (λ i. get_or (label_text script (i / limits.label)) (i % limits.label) 0)

-- how long each of them is
abbrev pub sizes_of : List ℕ → List ℕ
sizes_of script = list_to limits.slots (λ k. length (label_text script k))

-- the time of a monitor's last accepted step
abbrev pub time_of : Monitor → ℕ
time_of m = m.last - 1

-- what is printed of a step's reply, by the label of each entry
abbrev pub said_of : (ℕ → List ℕ) → Stepped → Answer → List ℕ
said_of label s (Ok _) = row_lines label (time_of s.monitor) (result_in s.results) s.monitor.table.n
said_of label s (Err r) = refused_line r

-- what is printed of a step's reply
unfoldable pub reply_lines : (ℕ → List ℕ) → Stepped → List ℕ
reply_lines label s = said_of label s s.answer

-- the greatest count of steps: a number of 64 bits goes no further
abbrev pub most_steps : ℕ
most_steps = 2 ^ 64 - 1

-- one more counted
abbrev pub once_more : ℕ → ℕ
once_more count = cond (ltb count most_steps) (suc count) count

-- how many steps were accepted after this answer
abbrev pub accepted_after : Answer → ℕ → ℕ
accepted_after (Ok _) count = once_more count
accepted_after (Err r) count = count

-- how many were refused
abbrev pub refused_after : Answer → ℕ → ℕ
refused_after (Ok _) count = count
refused_after (Err r) count = once_more count

-- a player before the first byte of a stream
abbrev pub new_player : Player
new_player =
    record {
      stage = Stage.Script;
      texts = replicate 4096 0;
      sizes = replicate limits.slots 0;
      monitor = (start_on empty_table).monitor;
      accepted = 0;
      refused = 0;
    }

-- a player that has its script, and no step yet
abbrev pub begun : List ℕ → Table → Player
begun script t = record { stage = Stage.Steps; texts = texts_of script; sizes = sizes_of script; monitor = (start_on t).monitor; accepted = 0; refused = 0 }

-- a player after a step
abbrev pub onward : Player → Stepped → Player
onward p s =
    record {
      stage = Stage.Steps;
      texts = p.texts;
      sizes = p.sizes;
      monitor = s.monitor;
      accepted = accepted_after s.answer p.accepted;
      refused = refused_after s.answer p.refused;
    }

-- a player that has printed all its lines
abbrev pub finished : Player → Player
finished p = record { stage = Stage.Over; texts = p.texts; sizes = p.sizes; monitor = p.monitor; accepted = p.accepted; refused = p.refused }

-- a move: what is printed, the player after it, and the bytes that are left; or nothing until there are more bytes
pub data Move : Type 0 where
  waits : Move
  says : List ℕ → Player → List ℕ → Move

-- "The first line gives n."; "a refused script prints `script refused` and its number and nothing else"
abbrev pub opening_line : Got Table → List ℕ
opening_line (got t at) = script_line t.n
opening_line (refused r) = script_refused_line r

-- the player after a script
abbrev pub opened_by : Player → List ℕ → Got Table → Player
opened_by p script (got t at) = begun script t
opened_by p script (refused r) = finished p

-- "input that stops before the whole script is there prints `cut` and nothing else"
abbrev pub script_move : Player → Bool → Next → Move
script_move p ended (whole script rest) = says (opening_line (script_of script)) (opened_by p script (script_of script)) rest
script_move p true end = says cut_line (finished p) []
script_move p true stops = says cut_line (finished p) []
script_move p false end = waits
script_move p false stops = waits

-- a step is played
abbrev pub played : Player → Stepped → List ℕ → Move
played p s rest = says (reply_lines (text_kept p.texts p.sizes) s) (onward p s) rest

-- "Input that stops inside a record or its length prints `cut` before the last line"
abbrev pub step_move : Player → Bool → Next → Move
step_move p ended (whole bytes rest) = played p (step_of p.monitor bytes) rest
step_move p true end = says (closing false (record { accepted = p.accepted; refused = p.refused })) (finished p) []
step_move p true stops = says (closing true (record { accepted = p.accepted; refused = p.refused })) (finished p) []
step_move p false end = waits
step_move p false stops = waits

-- the move of a player at a stage, by what comes next in the input
abbrev pub move_at : Stage → Player → Bool → Next → Move
move_at Stage.Script p ended next = script_move p ended next
move_at Stage.Steps p ended next = step_move p ended next
move_at Stage.Over p ended next = waits

-- a player's move, by the bytes in front of it and whether the input ends with them
unfoldable pub move_of : Player → Bool → List ℕ → Move
move_of p ended input = move_at p.stage p ended (next_record input)

-- room enough for what any one move prints
abbrev pub move_room : ℕ
move_room = 8192

-- move after move, as long as there is one and room for what it prints
pub data Moves (ended : Bool) : ℕ → Player → List ℕ → List ℕ → Player → List ℕ → Type 0 where
  full : {room : ℕ} {p : Player} {input : List ℕ} → room < move_room → Moves ended room p input [] p input
  idle : {room : ℕ} {p : Player} {input : List ℕ} → move_of p ended input ≡ waits → Moves ended room p input [] p input
  move : {room : ℕ} {p q last : Player} {input rest left text later : List ℕ} → move_room ≤ room → move_of p ended input ≡ says text q rest
      → Moves ended (room - length text) q rest later last left → Moves ended room p input (text ++ later) last left

-- whether all lines are printed
abbrev pub is_over : Stage → Bool
is_over Stage.Script = false
is_over Stage.Steps = false
is_over Stage.Over = true

-- a turn from byte `from` of the input and byte `start` of the output on: as many moves as the input and the room allow, what they print laid into
-- the output, and the bytes that they took
pub record Turned (p : Player) (ended : Bool) (input : List ℕ) (from : ℕ) (out : List ℕ) (start : ℕ) (after : List ℕ) (t : Turn) : Type 0 where
  pub text : List ℕ
  pub moves : Moves ended (length out - start) p (drop from input) text t.player (drop t.taken input)
  pub lays : Lays out start text after t.filled
  pub within : t.taken ≤ length input
  pub room : t.filled ≤ length out
  pub done : t.over ≡ is_over t.player.stage
