-- A turn as the code takes it: record after record, and then the end.
use Rattle.std.specs.Prelude.{Bool, not, ◌≡◌, refl, ℕ, suc, ◌+◌, ◌-◌, ◌*◌, ◌<◌, ◌≤◌, leb, ltb, length, take}
use Rattle.std.proofs.Math.Bool.{true, false, cond}
use mathlib.Core.List.{List, [], ◌∷◌, ◌++◌}
use Rattle.std.proofs.Math.Path.{sym, ap, subst}
use Rattle.std.proofs.Common.{◌∙◌, arith, lt-ltb, le-ltb, length-drop}
use Rattle.std.proofs.Math.Decide.{dec_lt}
use Rattle.std.proofs.Math.ListN.{drop}
use Rattle.std.proofs.Math.Seq.{drop-length}
use Rattle.bits.specs.Reading.{Got, got, refused}
use Rattle.table.specs.declared.Table.{Table}
use Rattle.script.specs.Reader.{script_of}
use Rattle.parts.specs.Within.{part_of}
use Rattle.monitor.specs.declared.Monitor.{Monitor}
use Rattle.monitor.specs.declared.Stepped.{Stepped}
use Rattle.monitor.specs.Stepping.{step_of}
use Rattle.lines.specs.Laying.{end_of, Lays, lays_none, lays_then, lays_length, lays_room}
use Rattle.stream.specs.Lines.{cut_line}
use Rattle.stream.specs.Records.{Next, end, stops, whole, next_record}
use Rattle.stream.specs.Replay.{closing}
use Rattle.replaying.specs.declared.Stage.{Stage}
use Rattle.replaying.specs.declared.Player.{Player}
use Rattle.replaying.specs.declared.Turn.{Turn}
use Rattle.replaying.specs.declared.framing.Record.{Record}
use Rattle.replaying.specs.Moving.{text_kept, reply_lines, accepted_after, refused_after, onward, finished, opening_line, opened_by, waits, says, script_move, step_move, move_at, move_of, move_room, Moves, full, idle, move, is_over, Turned}
use Rattle.replaying.specs.Framing.{Framed}
use Rattle.replaying.specs.Pieces.{over_waits}

-- no whole record comes next
abbrev pub NoWhole : Next → Type 0
NoWhole end = Unit
NoWhole stops = Unit
NoWhole (whole bytes rest) = ⊥

-- a player that has its script, where no whole record comes next or there is no room for its lines
pub record Idle (p : Player) (input : List ℕ) (at room : ℕ) : Type 0 where
  pub stage : p.stage ≡ Stage.Steps
  pub none : move_room ≤ room → NoWhole (next_record (drop at input))

-- the room that a text leaves
pub end_room : (room at : ℕ) (text : List ℕ) → at ≤ room → room - end_of room at text ≡ room - at - length text
unfolding end_of
end_room room at [] within = omega arith
end_room room at (b ∷ text) within =
    elim (dec_lt at room) [
      | yes l ↦ rw (lt-ltb at room l) (end_room room (suc at) text (omega arith) ∙ omega arith)
      | no h ↦ rw (le-ltb at room (omega arith)) (end_room room at text within ∙ omega arith)
    ]

-- a turn without a move
abbrev pub staying : Player → Bool → ℕ → ℕ → Turn
staying p over at filled = record { player = p; over = over; taken = at; filled = filled }

module _ {p : Player} {ended : Bool} {input : List ℕ} {from : ℕ} {out : List ℕ} {start : ℕ} where
  -- no move, since none is there or there is no room
  turned_none : Moves ended (length out - start) p (drop from input) [] p (drop from input) → from ≤ length input → start ≤ length out → (over : Bool) → over ≡ is_over p.stage
      → Turned p ended input from out start out (staying p over from start)
  turned_none none within room over is = record { text = []; moves = none; lays = lays_none out start; within = within; room = room; done = is }

  -- a move, and then a turn of the player that it leaves
  turned_after : {q : Player} {at : ℕ} {text mid after : List ℕ} {next : ℕ} {t : Turn} → start ≤ length out → move_room ≤ length out - start
      → move_of p ended (drop from input) ≡ says text q (drop at input) → Lays out start text mid next → Turned q ended input at mid next after t
      → Turned p ended input from out start after t
  turned_after {q} {at} {text} {mid} {after} {next} {t} within room is lays later =
      let same = lays_length lays in
      let left : length mid - next ≡ length out - start - length text =
      (λ i. same i - lays.place i) ∙ end_room (length out) start text within in
      record {
        text = text ++ later.text;
        moves = move room is (subst (λ (n : ℕ). Moves ended n q (drop at input) later.text t.player (drop t.taken input)) left later.moves);
        lays = lays_then lays later.lays;
        within = later.within;
        room = subst (λ (n : ℕ). t.filled ≤ n) same later.room;
        done = later.done;
      }

  -- there is no room for a move
  turned_full : length out - start < move_room → from ≤ length input → start ≤ length out → (over : Bool) → over ≡ is_over p.stage
      → Turned p ended input from out start out (staying p over from start)
  turned_full short within room over is = turned_none (full short) within room over is

  -- a player that is over has no move
  turned_over : p.stage ≡ Stage.Over → from ≤ length input → start ≤ length out → Turned p ended input from out start out (staying p true from start)
  turned_over stage within room = turned_none (idle (over_waits p ended (drop from input) stage)) within room true (ap is_over (sym stage))

module _ {p : Player} {ended : Bool} {input : List ℕ} {from : ℕ} {out : List ℕ} {start : ℕ} where
  -- all is printed, and all of the input is taken
  turned_last : {text mid : List ℕ} {next : ℕ} → start ≤ length out → move_room ≤ length out - start → move_of p ended (drop from input) ≡ says text (finished p) []
      → Lays out start text mid next → Turned p ended input from out start mid (staying (finished p) true (length input) next)
  turned_last {text} {mid} {next} within room is lays =
      turned_after within room (is ∙ ap (says text (finished p)) (sym (drop-length input))) lays
      (turned_over refl (omega arith) (omega (arith, lays_room within lays, lays_length lays)))

-- a record that is not whole stops inside
not_whole : (b : Bool) (bytes rest : List ℕ) → NoWhole (cond b (whole bytes rest) stops) → cond b (whole bytes rest) stops ≡ stops
not_whole true bytes rest none = absurd none
not_whole false bytes rest none = refl

-- where no whole record comes next, the input ends there if nothing is left, and stops inside a record if something is
next_left : (x : List ℕ) → NoWhole (next_record x) → next_record x ≡ cond (ltb 0 (length x)) stops end
unfolding next_record
next_left [] none = refl
next_left (high ∷ []) none = refl
next_left (high ∷ low ∷ rest) none =
    let size = high * 256 + low in
    not_whole (leb size (length rest)) (take size rest) (drop size rest) none
    ∙ sym (ap (λ (b : Bool). cond b stops end) (lt-ltb 0 (suc (suc (length rest))) (omega arith)))

-- something is left exactly where the place stands before the end
left_after : (input : List ℕ) (at : ℕ) → ltb at (length input) ≡ ltb 0 (length (drop at input))
left_after input at =
    elim (dec_lt at (length input)) [
      | yes l ↦ lt-ltb at (length input) l ∙ sym (lt-ltb 0 (length (drop at input)) (omega (arith, length-drop at input)))
      | no h ↦ le-ltb at (length input) (omega arith) ∙ sym (le-ltb 0 (length (drop at input)) (omega (arith, length-drop at input)))
    ]

-- a record may yet come
waits_record : (p : Player) (next : Next) → NoWhole next → step_move p false next ≡ waits
waits_record p end none = refl
waits_record p stops none = refl
waits_record p (whole bytes rest) none = absurd none

-- the script may
waits_script : (p : Player) (next : Next) → NoWhole next → script_move p false next ≡ waits
waits_script p end none = refl
waits_script p stops none = refl
waits_script p (whole bytes rest) none = absurd none

-- the script will never be whole
cut_script : (p : Player) (next : Next) → NoWhole next → script_move p true next ≡ says cut_line (finished p) []
cut_script p end none = refl
cut_script p stops none = refl
cut_script p (whole bytes rest) none = absurd none

-- the last lines
last_lines : (p : Player) (cut : Bool) → step_move p true (cond cut stops end) ≡ says (closing cut (record { accepted = p.accepted; refused = p.refused })) (finished p) []
last_lines p true = refl
last_lines p false = refl

-- an input that goes on
goes_on : (ended : Bool) → not ended ≡ true → ended ≡ false
goes_on true is = sym is
goes_on false is = refl

-- and one that has ended
has_ended : (ended : Bool) → not ended ≡ false → ended ≡ true
has_ended true is = refl
has_ended false is = sym is

module _ {p : Player} {input : List ℕ} {at : ℕ} {out : List ℕ} {filled : ℕ} (idles : Idle p input at (length out - filled)) (within : at ≤ length input) (room : filled ≤ length out)
    {ended : Bool} {t : Turn} where
  -- there is no room for the last lines
  pub close_full : length out - filled < move_room → t ≡ staying p false at filled → Turned p ended input at out filled out t
  close_full short is = subst (Turned p ended input at out filled out) (sym is) (turned_full short within room false (ap is_over (sym idles.stage)))

  -- a record may yet come
  pub close_waits : not ended ≡ true → t ≡ staying p false at filled → Turned p ended input at out filled out t
  unfolding move_of
  close_waits more is =
      elim (dec_lt (length out - filled) move_room) [
        | yes short ↦ close_full short is
        | no enough ↦
            let waiting = (λ i. move_at (idles.stage i) p (goes_on ended more i) (next_record (drop at input))) ∙ waits_record p (next_record (drop at input)) (idles.none (omega arith)) in
            subst (Turned p ended input at out filled out) (sym is) (turned_none (idle waiting) within room false (ap is_over (sym idles.stage)))
      ]

  -- "Input that stops inside a record or its length prints `cut` before the last line"
  pub close_ends : {q : Player} {after : List ℕ} {next : ℕ} → not ended ≡ false → move_room ≤ length out - filled → q ≡ finished p
      → Lays out filled (closing (ltb at (length input)) (record { accepted = p.accepted; refused = p.refused })) after next
      → t ≡ staying q true (length input) next → Turned p ended input at out filled after t
  unfolding move_of
  close_ends {q} {after} {next} none enough over lays is =
      let left = next_left (drop at input) (idles.none enough) ∙ ap (λ (b : Bool). cond b stops end) (sym (left_after input at)) in
      let last = (λ i. move_at (idles.stage i) p (has_ended ended none i) (left i)) ∙ last_lines p (ltb at (length input)) in
      subst (Turned p ended input at out filled after) (sym (is ∙ ap (λ (x : Player). staying x true (length input) next) over)) (turned_last room enough last lays)

module _ {p : Player} {input out : List ℕ} (stage : p.stage ≡ Stage.Script) {ended : Bool} {t : Turn} where
  -- there is no room for the script's line
  pub opening_full : length out < move_room → t ≡ staying p false 0 0 → Turned p ended input 0 out 0 out t
  opening_full short is = subst (Turned p ended input 0 out 0 out) (sym is) (turned_full (omega arith) (omega arith) (omega arith) false (ap is_over (sym stage)))

  -- the script may yet come
  pub opening_waits : NoWhole (next_record input) → not ended ≡ true → t ≡ staying p false 0 0 → Turned p ended input 0 out 0 out t
  unfolding move_of
  opening_waits none more is =
      let waiting = (λ i. move_at (stage i) p (goes_on ended more i) (next_record input)) ∙ waits_script p (next_record input) none in
      subst (Turned p ended input 0 out 0 out) (sym is) (turned_none (idle waiting) (omega arith) (omega arith) false (ap is_over (sym stage)))

  -- "input that stops before the whole script is there prints `cut` and nothing else"
  pub opening_cut : {q : Player} {after : List ℕ} {next : ℕ} → NoWhole (next_record input) → not ended ≡ false → move_room ≤ length out → q ≡ finished p
      → Lays out 0 cut_line after next → t ≡ staying q true (length input) next → Turned p ended input 0 out 0 after t
  unfolding move_of
  opening_cut {q} {after} {next} none over room finishes lays is =
      let last = (λ i. move_at (stage i) p (has_ended ended over i) (next_record input)) ∙ cut_script p (next_record input) none in
      subst (Turned p ended input 0 out 0 after) (sym (is ∙ ap (λ (x : Player). staying x true (length input) next) finishes)) (turned_last (omega arith) (omega arith) last lays)

  -- the script is there: its line, and then a turn of the player that has it
  pub opening_goes : {size : ℕ} {q : Player} {mid after : List ℕ} {next : ℕ} → move_room ≤ length out → Framed input 0 (Record.Whole size)
      → q ≡ opened_by p (take (2 + size - 2) (drop 2 input)) (script_of (take (2 + size - 2) (drop 2 input)))
      → Lays out 0 (opening_line (script_of (take (2 + size - 2) (drop 2 input)))) mid next
      → Turned q ended input (2 + size) mid next after t → Turned p ended input 0 out 0 after t
  unfolding move_of
  opening_goes {size} {q} room framed is lays later =
      let next = sym framed.next in
      let rest = drop (2 + size) input in
      turned_after (omega arith) (omega arith)
      ((λ i. move_at (stage i) p ended (next i))
      ∙ ap (λ (s : List ℕ). says (opening_line (script_of s)) (opened_by p s (script_of s)) rest) (sym (part_of input 2 size))
      ∙ ap (λ (x : Player). says (opening_line (script_of (take (2 + size - 2) (drop 2 input)))) x rest) (sym is))
      lays later

-- a turn of a player that is over
pub stays_over : {p : Player} {ended : Bool} {input : List ℕ} {at : ℕ} {out : List ℕ} {filled : ℕ} {t : Turn} → p.stage ≡ Stage.Over → at ≤ length input → filled ≤ length out
    → t ≡ staying p true at filled → Turned p ended input at out filled out t
stays_over {p} {ended} {input} {at} {out} {filled} stage within room is = subst (Turned p ended input at out filled out) (sym is) (turned_over stage within room)

-- a player that was opened does not await a script
pub opened_on : (p : Player) {q : Player} (script : List ℕ) (m : Got Table) → q ≡ opened_by p script m → q.stage ≡ Stage.Script → ⊥
opened_on p script (got t at) is awaits =
    let other : Stage.Steps ≡ Stage.Script = ap (λ (x : Player). x.stage) (sym is) ∙ awaits in
    let z : ◌≡◌ {A = ℕ} 0 1 = cc other in
    omega arith
opened_on p script (refused r) is awaits =
    let other : Stage.Over ≡ Stage.Script = ap (λ (x : Player). x.stage) (sym is) ∙ awaits in
    let z : ◌≡◌ {A = ℕ} 0 1 = cc other in
    omega arith

-- how far a turn has come: whatever turn follows from here is one from the start
pub record Going (p : Player) (ended : Bool) (input : List ℕ) (from : ℕ) (out : List ℕ) (start : ℕ) (q : Player) (at : ℕ) (held : List ℕ) (filled : ℕ) : Type 0 where
  pub onto : (after : List ℕ) (t : Turn) → Turned q ended input at held filled after t → Turned p ended input from out start after t
  pub within : at ≤ length input
  pub room : filled ≤ length held

-- a player that awaits steps, by its parts
abbrev pub awaiting : List ℕ → List ℕ → Monitor → ℕ → ℕ → Player
awaiting texts sizes m a f = record { stage = Stage.Steps; texts = texts; sizes = sizes; monitor = m; accepted = a; refused = f }

-- a turn of a player that awaits steps
pub awaiting_turned : {p : Player} {ended : Bool} {input : List ℕ} {from : ℕ} {out : List ℕ} {start : ℕ} {after : List ℕ} {t : Turn} → p.stage ≡ Stage.Steps
    → Turned (awaiting p.texts p.sizes p.monitor p.accepted p.refused) ended input from out start after t → Turned p ended input from out start after t
awaiting_turned {p} {ended} {input} {from} {out} {start} {after} {t} stage turned =
    subst (λ (s : Stage). Turned (record { stage = s; texts = p.texts; sizes = p.sizes; monitor = p.monitor; accepted = p.accepted; refused = p.refused }) ended input from out start after t)
    (sym stage) turned

-- a record that is not whole
pub framed_none : {input : List ℕ} {at : ℕ} (r : Record) → Framed input at r → ((size : ℕ) → r ≡ Record.Whole size → ⊥) → NoWhole (next_record (drop at input))
framed_none Record.End framed not = subst NoWhole framed.next tt
framed_none Record.Stops framed not = subst NoWhole framed.next tt
framed_none (Record.Whole size) framed not = absurd (not size refl)

-- no record is played yet
pub going_none : {p : Player} {ended : Bool} {input : List ℕ} {from : ℕ} {out : List ℕ} {start : ℕ} → from ≤ length input → start ≤ length out
    → Going p ended input from out start p from out start
going_none within room = record { onto = λ after t turned. turned; within = within; room = room }

module _ {p : Player} {ended : Bool} {input : List ℕ} {from : ℕ} {out : List ℕ} {start : ℕ} {texts sizes : List ℕ} {m : Monitor} {a f at : ℕ} {held : List ℕ} {filled : ℕ}
    (going : Going p ended input from out start (awaiting texts sizes m a f) at held filled) where
  -- one record more
  pub going_more : {size next a₁ f₁ : ℕ} {after : List ℕ} {s : Stepped} → move_room ≤ length held - filled → Framed input at (Record.Whole size)
      → s ≡ step_of m (take (at + 2 + size - (at + 2)) (drop (at + 2) input)) → Lays held filled (reply_lines (text_kept texts sizes) s) after next
      → a₁ ≡ accepted_after s.answer a → f₁ ≡ refused_after s.answer f
      → Going p ended input from out start (awaiting texts sizes s.monitor a₁ f₁) (at + 2 + size) after next
  unfolding move_of
  going_more {size} {next} {a₁} {f₁} {after} {s} enough framed is lays counted also =
      let record-next = sym framed.next in
      let text = reply_lines (text_kept texts sizes) s in
      let rest = drop (at + 2 + size) input in
      record {
        onto = λ last t turned. going.onto last t
            (turned_after going.room enough
            (ap (step_move (awaiting texts sizes m a f) ended) record-next
            ∙ ap (λ (x : Stepped). says (reply_lines (text_kept texts sizes) x) (onward (awaiting texts sizes m a f) x) rest) (sym (is ∙ ap (step_of m) (part_of input (at + 2) size)))
            ∙ (λ i. says text (awaiting texts sizes s.monitor (sym counted i) (sym also i)) rest))
            lays turned);
        within = framed.ends;
        room = omega (arith, lays_room going.room lays, lays_length lays);
      }
