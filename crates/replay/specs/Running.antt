-- What the program has done so far is the beginning of a run: whatever run goes on from here, the whole is a run from the first byte.
use Rattle.std.specs.Prelude.{Bool, true, false, ◌≡◌, refl, ℕ, ◌^◌, ◌<◌, length, take, drop}
use mathlib.Core.List.{List, [], ◌∷◌, ◌++◌, append_assoc, append-nil, flatten}
use Rattle.std.proofs.Common.{sym, ◌∙◌, ap, subst, subst₂, arith}
use Rattle.replies.specs.Plain.{never}
use Rattle.stream.specs.Replay.{replayed}
use Rattle.replaying.specs.declared.Stage.{Stage}
use Rattle.replaying.specs.declared.Player.{Player}
use Rattle.replaying.specs.declared.Turn.{Turn}
use Rattle.replaying.specs.Moving.{new_player, Turned}
use Rattle.replaying.specs.Pieces.{Run, reads, turns, closes, stops, over_stage}
use Rattle.replaying.specs.Whole.{run_replayed}

-- the pieces that were read so far, what was handed to write so far, and that a run from here on is the rest of a run from the first byte
pub record Running (p : Player) (held : List ℕ) (ended : Bool) : Type 0 where
  pub read : List (List ℕ)
  pub printed : List ℕ
  pub onto : (pieces : List (List ℕ)) (said : List ℕ) → (ended ≡ true → pieces ≡ []) → Run p held pieces said → Run new_player [] (read ++ pieces) (printed ++ said)

-- nothing is read or printed yet
abbrev pub running_none : {p : Player} {ended : Bool} → p ≡ new_player → Running p [] ended
running_none e = record { read = []; printed = []; onto = λ pieces said none run. subst (λ (q : Player). Run q [] pieces said) e run }

-- there is no piece after the end
no_piece : {X : Type 0} {piece : List ℕ} {pieces : List (List ℕ)} → ◌≡◌ {A = List (List ℕ)} (piece ∷ pieces) [] → X
no_piece e = absurd (let z : ◌≡◌ {A = ℕ} 0 1 = cc e in omega arith)

-- a turn, and then a run
pub turn_then : {p : Player} {held out after said : List ℕ} {r : Turn} (ended : Bool) (pieces : List (List ℕ)) → Turned p ended held 0 out 0 after r
    → (ended ≡ true → pieces ≡ []) → Run r.player (drop r.taken held) pieces said → Run p held pieces (take r.filled after ++ said)
turn_then false pieces turn none run = turns turn run
turn_then true [] turn none run = closes turn run
turn_then true (piece ∷ pieces) turn none run = no_piece (none refl)

-- what a turn fills is handed to write
abbrev pub running_turn : {p : Player} {held out after : List ℕ} {ended : Bool} {r : Turn} → Running p held ended → Turned p ended held 0 out 0 after r
    → Running r.player (drop r.taken held) ended
running_turn {after = after} {ended = ended} {r = r} running turn =
    record {
      read = running.read;
      printed = running.printed ++ take r.filled after;
      onto = λ pieces said none run.
          subst (Run new_player [] (running.read ++ pieces)) (sym (append_assoc running.printed (take r.filled after) said))
          (running.onto pieces (take r.filled after ++ said) none (turn_then ended pieces turn none run));
    }

-- the pieces with one more; after the end of the input nothing is read
abbrev pub read_on : Bool → List (List ℕ) → List ℕ → List (List ℕ)
read_on true read piece = read
read_on false read piece = read ++ (piece ∷ [])

-- a read, and then a run
pub read_then : {p : Player} {held after piece said : List ℕ} {pieces : List (List ℕ)} (was : Bool) (running : Running p held was) → after ≡ held ++ piece → (was ≡ true → piece ≡ [])
    → (was ≡ true → pieces ≡ []) → Run p after pieces said → Run new_player [] (read_on was running.read piece ++ pieces) (running.printed ++ said)
read_then {p} {held} {after} {piece} {said} {pieces} true running e still none run =
    let same : after ≡ held = e ∙ ap (λ (l : List ℕ). held ++ l) (still refl) ∙ append-nil held in
    running.onto pieces said none (subst (λ (l : List ℕ). Run p l pieces said) same run)
read_then {p} {held} {after} {piece} {said} {pieces} false running e still none run =
    subst (λ (l : List (List ℕ)). Run new_player [] l (running.printed ++ said)) (sym (append_assoc running.read (piece ∷ []) pieces))
    (running.onto (piece ∷ pieces) said (λ over. never over) (reads (subst (λ (l : List ℕ). Run p l pieces said) e run)))

-- a piece is read, and put after what is held
abbrev pub running_read : {p : Player} {held after : List ℕ} {was ended : Bool} (piece : List ℕ) → Running p held was → after ≡ held ++ piece
    → (was ≡ true → (piece ≡ []) × (ended ≡ true)) → Running p after ended
running_read {was = was} piece running e still =
    record {
      read = read_on was running.read piece;
      printed = running.printed;
      onto = λ pieces said none run. read_then was running e (λ over. (still over).0) (λ over. none (still over).1) run;
    }

-- where all lines are printed, they are those that document 01 says of the bytes that were read
pub running_over : {p : Player} {held : List ℕ} {ended : Bool} (running : Running p held ended) → p.stage ≡ Stage.Over → length (flatten running.read) < 2 ^ 64
    → running.printed ≡ replayed (flatten running.read)
running_over running done few =
    let run = running.onto [] [] (λ over. refl) (stops done) in
    run_replayed (subst₂ (Run new_player []) (append-nil running.read) (append-nil running.printed) run) few

-- so they are after the turn that is the last
pub running_last : {p : Player} {held out after : List ℕ} {ended : Bool} {r : Turn} (running : Running p held ended) → Turned p ended held 0 out 0 after r
    → r.over ≡ true → length (flatten running.read) < 2 ^ 64 → running.printed ++ take r.filled after ≡ replayed (flatten running.read)
running_last {r = r} running turn over few =
    running_over (running_turn running turn) (over_stage r.player.stage (sym turn.done ∙ over)) few
