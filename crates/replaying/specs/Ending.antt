-- Every input gets a reply that the contract allows, and every stream has a run that comes to its end: what is said of runs is said of every stream.
use Rattle.std.specs.Prelude.{Bool, true, List, [], ◌∷◌, ◌++◌, ◌≡◌, refl, ℕ, zero, suc, ◌+◌, ◌-◌, ◌<◌, ◌≤◌, length, take, drop, replicate}
use Rattle.std.proofs.Common.{inl, inr, sym, ◌∙◌, ap, subst, not-suc-le-zero, arith, length-append, length-drop, drop-drop, drop_at}
use Rattle.std.proofs.Math.Decide.{dec_lt}
use Rattle.std.proofs.lemmas.List.{length-replicate}
use Rattle.std.proofs.Math.Seq.{drop-length}
use Rattle.lines.specs.Laying.{end_of, laid, Lays, lays_room}
use Rattle.stream.specs.Records.{whole, next_record}
use Rattle.stream.specs.Cutting.{whole_begins, rest_shorter}
use Rattle.replaying.specs.declared.Stage.{Stage}
use Rattle.replaying.specs.declared.Player.{Player}
use Rattle.replaying.specs.declared.Turn.{Turn}
use Rattle.replaying.specs.Moving.{Move, waits, says, move_of, move_room, Moves, full, idle, move, is_over, Turned}
use Rattle.replaying.specs.Pieces.{made, by_record, by_end, over_waits, Run, closes, stops, last, turn_goes_on, over_stage}

-- moves that a player can make, and how many bytes they take
record Making (ended : Bool) (room : ℕ) (p : Player) (input : List ℕ) : Type 0 where
  text : List ℕ
  last : Player
  taken : ℕ
  within : taken ≤ length input
  moves : Moves ended room p input text last (drop taken input)

-- no move
making_none : {ended : Bool} {room : ℕ} {p : Player} {input : List ℕ} → Moves ended room p input [] p input → Making ended room p input
making_none {p = p} moves = record { text = []; last = p; taken = 0; within = omega arith; moves = moves }

-- a record, and what comes after it
making_record : {ended : Bool} {room : ℕ} {p q : Player} {input text rest : List ℕ} (bytes : List ℕ) → move_room ≤ room → move_of p ended input ≡ says text q rest
    → next_record input ≡ whole bytes rest → Making ended (room - length text) q rest → Making ended room p input
making_record {ended} {room} {q = q} {input = input} {text = text} {rest = rest} bytes enough e next later =
    let b = whole_begins input next in
    let long : length input ≡ 2 + length bytes + length rest = ap length b.is ∙ omega (arith, length-append bytes rest) in
    let left : drop (2 + length bytes + later.taken) input ≡ drop later.taken rest =
    sym (drop-drop later.taken (2 + length bytes) input)
    ∙ ap (λ (l : List ℕ). drop later.taken l)
    (ap (drop (2 + length bytes)) b.is ∙ drop_at (b.high ∷ b.low ∷ bytes) rest (2 + length bytes) (omega arith)) in
    record {
      text = text ++ later.text;
      last = later.last;
      taken = 2 + length bytes + later.taken;
      within = omega (arith, later.within);
      moves = subst (Moves ended room _ input (text ++ later.text) later.last) (sym left) (move enough e later.moves);
    }

-- the end of the input
making_end : {ended : Bool} {room : ℕ} {p q : Player} {input text rest : List ℕ} → move_room ≤ room → move_of p ended input ≡ says text q rest → rest ≡ [] → q.stage ≡ Stage.Over
    → Making ended room p input
making_end {ended} {room} {q = q} {input = input} {text = text} {rest = rest} enough e none done =
    record {
      text = text ++ [];
      last = q;
      taken = length input;
      within = omega arith;
      moves = subst (Moves ended room _ input (text ++ []) q) (none ∙ sym (drop-length input)) (move enough e (idle (over_waits q ended rest done)));
    }

-- a move, if there is one, and then what can be made of the bytes that are left
making_by : (ended : Bool) (room : ℕ) (p : Player) (input : List ℕ) → move_room ≤ room → ((less : ℕ) (q : Player) (rest : List ℕ) → length rest < length input → Making ended less q rest)
    → (m : Move) → move_of p ended input ≡ m → Making ended room p input
unfolding move_of
making_by ended room p input enough later waits e = making_none (idle e)
making_by ended room p input enough later (says text q rest) e =
    elim (made p.stage p ended (next_record input) e) [
      | by_record bytes next moves ↦ making_record bytes enough e next (later (room - length text) q rest (omega (arith, rest_shorter input next)))
      | by_end done same none ↦ making_end enough e none (ap (λ (x : Player). x.stage) same)
    ]

-- so moves can be made whatever the player, the input and the room
making : (ended : Bool) (most room : ℕ) (p : Player) (input : List ℕ) → length input < most → Making ended room p input
making ended zero room p input fewer = absurd (not-suc-le-zero fewer)
making ended (suc most) room p input fewer =
    elim (dec_lt room move_room) [
      | yes short ↦ making_none (full short)
      | no enough ↦ making_by ended room p input (omega arith) (λ less q rest shorter. making ended most less q rest (omega arith)) (move_of p ended input) refl
    ]

-- a reply that the contract of `play` allows, and what the output then holds
pub record Reply (p : Player) (ended : Bool) (input out : List ℕ) : Type 0 where
  pub after : List ℕ
  pub turn : Turn
  pub turned : Turned p ended input 0 out 0 after turn

-- every input gets one
pub always_replies : (p : Player) (ended : Bool) (input out : List ℕ) → Reply p ended input out
always_replies p ended input out =
    let m = making ended (suc (length input)) (length out - 0) p input (omega arith) in
    let lays : Lays out 0 m.text (laid out 0 m.text) (end_of (length out) 0 m.text) = record { bytes = refl; place = refl } in
    record {
      after = laid out 0 m.text;
      turn = record { player = m.last; over = is_over m.last.stage; taken = m.taken; filled = end_of (length out) 0 m.text };
      turned = record { text = m.text; moves = m.moves; lays = lays; within = m.within; room = lays_room (omega arith) lays; done = refl };
    }

-- a run that comes to its end
pub record Ends (p : Player) (held : List ℕ) : Type 0 where
  pub said : List ℕ
  pub run : Run p held [] said

-- turn after turn with room for a move: each takes a byte, or is the last
ends_within : (out : List ℕ) → move_room ≤ length out → (most : ℕ) (p : Player) (held : List ℕ) → length held < most → Ends p held
ends_within out room zero p held fewer = absurd (not-suc-le-zero fewer)
ends_within out room (suc most) p held fewer =
    let a = always_replies p true held out in
    let r = a.turn in
    let within = a.turned.within in
    elim (turn_goes_on a.turned room last) [
      | inl took ↦
          let rest = ends_within out room most r.player (drop r.taken held) (omega (arith, length-drop r.taken held)) in
          record { said = take r.filled a.after ++ rest.said; run = closes a.turned rest.run }
      | inr done ↦ record {
        said = take r.filled a.after ++ [];
        run = closes a.turned (stops (over_stage r.player.stage (sym a.turned.done ∙ done)));
      }
    ]

-- every stream has a run that comes to its end
pub run_ends : (p : Player) (held : List ℕ) → Ends p held
run_ends p held = ends_within (replicate {A = ℕ} move_room 0) (omega (arith, length-replicate {A = ℕ} move_room 0)) (suc (length held)) p held (omega arith)
