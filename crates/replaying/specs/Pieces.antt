-- A stream that comes in pieces: turn after turn, what is printed is what one whole input prints.
use Rattle.std.specs.Prelude.{Bool, true, false, ◌⊎◌, ◌≡◌, refl, ℕ, ◌-◌, ◌<◌, ◌≤◌, length, get_or, take, drop}
use mathlib.Core.List.{List, [], ◌∷◌, ◌++◌, append_assoc, append-nil, flatten}
use Rattle.std.proofs.Common.{inl, inr, sym, ◌∙◌, ap, subst, subst₂, arith, length-append, length-drop}
use Rattle.replies.specs.Plain.{never}
use Rattle.lines.specs.Laying.{Lays, lays_same}
use Rattle.lines.specs.Whole.{laid_whole}
use Rattle.stream.specs.Records.{Next, end, whole, next_record}
use Rattle.stream.specs.Cutting.{whole_more, rest_shorter, longest, long_begins}
use Rattle.replaying.specs.declared.Stage.{Stage}
use Rattle.replaying.specs.declared.Player.{Player}
use Rattle.replaying.specs.declared.Turn.{Turn}
use Rattle.replaying.specs.Fitting.{Fit, move_fits, fit_stays}
use Rattle.replaying.specs.Moving.{waits, says, move_at, move_of, move_room, finished, Moves, full, idle, move, is_over, Turned}

-- what a player prints of the whole rest of a stream
pub data Plays : Player → List ℕ → List ℕ → Type 0 where
  over : {p : Player} {input : List ℕ} → move_of p true input ≡ waits → Plays p input []
  then : {p q : Player} {input rest text later : List ℕ} → move_of p true input ≡ says text q rest → Plays q rest later → Plays p input (text ++ later)

-- a move has one text, one player after it and one rest
same_move : {a b c d : List ℕ} {p q : Player} → says a p c ≡ says b q d → (a ≡ b) × (p ≡ q) × (c ≡ d)
same_move e = (cc, cc, cc)

-- to wait is no move
no_move : {X : Type 0} {text rest : List ℕ} {q : Player} → waits ≡ says text q rest → X
no_move e = absurd (let z : ◌≡◌ {A = ℕ} 0 1 = cc e in omega arith)

-- a player prints one thing of a stream
pub plays_same : {p : Player} {input a b : List ℕ} → Plays p input a → Plays p input b → a ≡ b
plays_same (over e) (over f) = refl
plays_same (over e) (then f later) = no_move (sym e ∙ f)
plays_same (then e one) (over f) = no_move (sym f ∙ e)
plays_same (then e one) (then {later = later} f two) =
    let same = same_move (sym f ∙ e) in
    let rest = plays_same one (subst₂ (λ q rest. Plays q rest later) same.1 same.2 two) in
    λ i. sym same.0 i ++ rest i

-- what made a move: a whole record came next, or the input ended
pub data Made (stage : Stage) (p : Player) (ended : Bool) (next : Next) (text : List ℕ) (q : Player) (rest : List ℕ) : Type 0 where
  by_record : (bytes : List ℕ) → next ≡ whole bytes rest → ((last : Bool) (later : List ℕ) → move_at stage p last (whole bytes later) ≡ says text q later)
      → Made stage p ended next text q rest
  by_end : ended ≡ true → q ≡ finished p → rest ≡ [] → Made stage p ended next text q rest

-- the end of the input made it
ended_so : {stage : Stage} {p q : Player} {next : Next} {text said rest : List ℕ} → says said (finished p) [] ≡ says text q rest → Made stage p true next text q rest
ended_so e = let same = same_move e in by_end refl (sym same.1) (sym same.2)

-- every move was made by the one or the other
pub made : {text rest : List ℕ} {q : Player} (stage : Stage) (p : Player) (ended : Bool) (next : Next) → move_at stage p ended next ≡ says text q rest → Made stage p ended next text q rest
made Stage.Script p ended (whole script later) e =
    let same = same_move e in
    by_record script (ap (whole script) same.2) (λ last more i. says (same.0 i) (same.1 i) more)
made Stage.Script p true end e = ended_so e
made Stage.Script p true Next.stops e = ended_so e
made Stage.Script p false end e = no_move e
made Stage.Script p false Next.stops e = no_move e
made Stage.Steps p ended (whole bytes later) e =
    let same = same_move e in
    by_record bytes (ap (whole bytes) same.2) (λ last more i. says (same.0 i) (same.1 i) more)
made Stage.Steps p true end e = ended_so e
made Stage.Steps p true Next.stops e = ended_so e
made Stage.Steps p false end e = no_move e
made Stage.Steps p false Next.stops e = no_move e
made Stage.Over p ended next e = no_move e

-- a move before the end of the input is the same move with more bytes after it
pub move_more : (p : Player) (input : List ℕ) {q : Player} {text rest : List ℕ} → move_of p false input ≡ says text q rest → (ended : Bool) (more : List ℕ)
    → move_of p ended (input ++ more) ≡ says text q (rest ++ more)
unfolding move_of
move_more p input {q} {text} {rest} e ended more =
    elim (made p.stage p false (next_record input) e) [
      | by_record bytes next moves ↦ ap (move_at p.stage p ended) (whole_more input next more) ∙ moves ended (rest ++ more)
      | by_end last q rest ↦ never last
    ]

-- moves over a part of a stream, and then the rest of it
moves_onto : {ended : Bool} {room : ℕ} {p q : Player} {input text rest later : List ℕ} (grown : List ℕ → List ℕ)
    → ((p q : Player) (input text rest : List ℕ) → move_of p ended input ≡ says text q rest → move_of p true (grown input) ≡ says text q (grown rest))
    → Moves ended room p input text q rest → Plays q (grown rest) later → Plays p (grown input) (text ++ later)
moves_onto grown each (full less) plays = plays
moves_onto grown each (idle e) plays = plays
moves_onto {later = later} grown each (move {p = p} {q = q} {input = input} {rest = rest} {text = text} {later = others} enough e moves) plays =
    subst (Plays p (grown input)) (sym (append_assoc text others later)) (then (each p q input text rest e) (moves_onto grown each moves plays))

-- moves before the end of a stream, and then what is printed of the rest with more bytes after it
pub moves_then : {room : ℕ} {p q : Player} {input text rest later : List ℕ} (more : List ℕ)
    → Moves false room p input text q rest → Plays q (rest ++ more) later → Plays p (input ++ more) (text ++ later)
moves_then more = moves_onto (λ input. input ++ more) (λ p q input text rest e. move_more p input e true more)

-- moves at the end of a stream, and then what is printed of the rest
pub moves_last : {room : ℕ} {p q : Player} {input text rest later : List ℕ} → Moves true room p input text q rest → Plays q rest later → Plays p input (text ++ later)
moves_last = moves_onto (λ input. input) (λ p q input text rest e. e)

-- a player makes the same moves
pub moves_same : {ended : Bool} {room : ℕ} {p q₁ q₂ : Player} {input a b r₁ r₂ : List ℕ}
    → Moves ended room p input a q₁ r₁ → Moves ended room p input b q₂ r₂ → (a ≡ b) × (q₁ ≡ q₂) × (r₁ ≡ r₂)
moves_same (full less) (full also) = (refl, refl, refl)
moves_same (full less) (idle f) = (refl, refl, refl)
moves_same (full less) (move enough f two) = absurd (omega arith)
moves_same (idle e) (full less) = (refl, refl, refl)
moves_same (idle e) (idle f) = (refl, refl, refl)
moves_same (idle e) (move enough f two) = no_move (sym e ∙ f)
moves_same (move enough e one) (full less) = absurd (omega arith)
moves_same (move enough e one) (idle f) = no_move (sym f ∙ e)
moves_same {ended} {room} (move enough e one) (move {last = last} {left = left} {later = later} also f two) =
    let same = same_move (sym f ∙ e) in
    let rest = moves_same one (coe 0 1 (i. Moves ended (room - length (same.0 i)) (same.1 i) (same.2 i) later last left) two) in
    ((λ i. sym same.0 i ++ rest.0 i), rest.1, rest.2)

-- two turns of a player on one input and one output take as many bytes, leave the same player, and fill the same bytes of the output
pub turned_same : {p : Player} {ended : Bool} {input out one two : List ℕ} {from start : ℕ} {t u : Turn}
    → Turned p ended input from out start one t → Turned p ended input from out start two u → (t ≡ u) × (one ≡ two)
turned_same {ended = ended} {input = input} {out = out} {start = start} {t = t} {u = u} first second =
    let same = moves_same first.moves second.moves in
    let taken : t.taken ≡ u.taken = omega (arith, first.within, second.within, length-drop t.taken input, length-drop u.taken input, ap length same.2) in
    let laid = lays_same first.lays (subst (λ (text : List ℕ). Lays out start text _ u.filled) (sym same.0) second.lays) in
    let done = first.done ∙ ap (λ (q : Player). is_over q.stage) same.1 ∙ sym second.done in
    ((λ i. record { player = same.1 i; over = done i; taken = taken i; filled = laid.0 i }), laid.1)

-- a run of the program: the player, the bytes that it holds, the pieces that are still to come, and what is printed from here on
pub data Run : Player → List ℕ → List (List ℕ) → List ℕ → Type 0 where
  -- a piece is put after what is held
  reads : {p : Player} {held piece said : List ℕ} {pieces : List (List ℕ)} → Run p (held ++ piece) pieces said → Run p held (piece ∷ pieces) said
  -- a turn while more may come
  turns : {p : Player} {held out after said : List ℕ} {pieces : List (List ℕ)} {r : Turn} → Turned p false held 0 out 0 after r
      → Run r.player (drop r.taken held) pieces said → Run p held pieces (take r.filled after ++ said)
  -- a turn when no more will come
  closes : {p : Player} {held out after said : List ℕ} {r : Turn} → Turned p true held 0 out 0 after r
      → Run r.player (drop r.taken held) [] said → Run p held [] (take r.filled after ++ said)
  -- all lines are printed
  stops : {p : Player} {held : List ℕ} {pieces : List (List ℕ)} → p.stage ≡ Stage.Over → Run p held pieces []

-- a player that has printed all its lines waits
pub over_waits : (p : Player) (ended : Bool) (input : List ℕ) → p.stage ≡ Stage.Over → move_of p ended input ≡ waits
unfolding move_of
over_waits p ended input done = ap (λ (stage : Stage). move_at stage p ended (next_record input)) done

-- what a turn lays into the output is all that its moves print, where there is room for it
turn_prints : {p : Player} {ended : Bool} {input out after : List ℕ} {r : Turn} (turn : Turned p ended input 0 out 0 after r) → length turn.text ≤ length out
    → take r.filled after ≡ turn.text
turn_prints {out = out} turn room =
    let whole = laid_whole out turn.text room in
    (λ i. take ((turn.lays.place ∙ whole.0) i) (turn.lays.bytes i)) ∙ whole.1

-- moves print no more than there is room for
moves_fit : {ended : Bool} {room : ℕ} {p q : Player} {input text rest : List ℕ} → Fit p → Moves ended room p input text q rest → (length text ≤ room) × Fit q
moves_fit fit (full less) = (omega arith, fit)
moves_fit fit (idle e) = (omega arith, fit)
moves_fit {ended} fit (move {p = p} {input = input} {text = text} {later = later} enough e moves) =
    let rest-fits = moves_fit (fit_stays p fit ended input e) moves in
    (omega (arith, length-append text later, move_fits p fit ended input e, rest-fits.0), rest-fits.1)

-- a stream in pieces prints what the whole stream prints
pub run_plays : {p : Player} {held said : List ℕ} {pieces : List (List ℕ)} → Fit p → Run p held pieces said → Plays p (held ++ flatten pieces) said
unfolding flatten
run_plays fit (reads {p = p} {held = held} {piece = piece} {said = said} {pieces = pieces} run) =
    subst (λ (l : List ℕ). Plays p l said) (append_assoc held piece (flatten pieces)) (run_plays fit run)
run_plays fit (turns {pieces = pieces} turn run) =
    let fits = moves_fit fit turn.moves in
    rw (turn_prints turn (omega (arith, fits.0))) (moves_then (flatten pieces) turn.moves (run_plays fits.1 run))
run_plays fit (closes {held = held} {r = r} turn run) =
    let fits = moves_fit fit turn.moves in
    let later = rw (append-nil (drop r.taken held)) at (run_plays fits.1 run) in
    rw (append-nil held, turn_prints turn (omega (arith, fits.0))) (moves_last turn.moves later)
run_plays fit (stops {p = p} {held = held} {pieces = pieces} done) = over (over_waits p true (held ++ flatten pieces) done)

-- bytes enough for a move: the last ones, or as many as the longest record has
pub data Enough : Bool → List ℕ → Type 0 where
  last : {input : List ℕ} → Enough true input
  long : {ended : Bool} {input : List ℕ} → longest ≤ length input → ((i : ℕ) → i < length input → get_or input i 0 < 256) → Enough ended input

-- where a whole record comes next, a player waits only if it has printed all its lines
waits_whole : (stage : Stage) (p : Player) (ended : Bool) (bytes rest : List ℕ) → move_at stage p ended (whole bytes rest) ≡ waits → stage ≡ Stage.Over
waits_whole Stage.Script p ended bytes rest e = no_move (sym e)
waits_whole Stage.Steps p ended bytes rest e = no_move (sym e)
waits_whole Stage.Over p ended bytes rest e = refl

-- so it does where the input has ended
waits_ended : (stage : Stage) (p : Player) (next : Next) → move_at stage p true next ≡ waits → stage ≡ Stage.Over
waits_ended Stage.Script p end e = no_move (sym e)
waits_ended Stage.Script p Next.stops e = no_move (sym e)
waits_ended Stage.Script p (whole bytes rest) e = no_move (sym e)
waits_ended Stage.Steps p end e = no_move (sym e)
waits_ended Stage.Steps p Next.stops e = no_move (sym e)
waits_ended Stage.Steps p (whole bytes rest) e = no_move (sym e)
waits_ended Stage.Over p next e = refl

-- so with bytes enough it makes a move
waits_over : {ended : Bool} {input : List ℕ} → Enough ended input → (p : Player) → move_of p ended input ≡ waits → p.stage ≡ Stage.Over
unfolding move_of
waits_over {input = input} last p e = waits_ended p.stage p (next_record input) e
waits_over (long {ended = ended} {input = input} enough small) p e =
    let found = long_begins input enough small in
    waits_whole p.stage p ended found.0 found.1 (sym (ap (move_at p.stage p ended) found.2) ∙ e)

-- a move takes a byte, or all lines are printed
move_goes : (p : Player) (ended : Bool) (input : List ℕ) {q : Player} {text rest : List ℕ} → move_of p ended input ≡ says text q rest
    → (length rest < length input) ⊎ ((rest ≡ []) × (q.stage ≡ Stage.Over))
unfolding move_of
move_goes p ended input e =
    elim (made p.stage p ended (next_record input) e) [
      | by_record bytes next moves ↦ inl (omega (arith, rest_shorter input next))
      | by_end done same none ↦ inr (none, ap (λ (x : Player). x.stage) same)
    ]

-- no move gives bytes back
moves_shorter : {ended : Bool} {room : ℕ} {p q : Player} {input text rest : List ℕ} → Moves ended room p input text q rest → length rest ≤ length input
moves_shorter (full less) = omega arith
moves_shorter (idle e) = omega arith
moves_shorter {ended} (move {p = p} {input = input} enough e moves) =
    let later = moves_shorter moves in
    elim (move_goes p ended input e) [ inl less ↦ omega arith | inr done ↦ omega (arith, ap length done.0) ]

-- a player that has printed all its lines makes no move
over_stays : {ended : Bool} {room : ℕ} {p q : Player} {input text rest : List ℕ} → Moves ended room p input text q rest → p.stage ≡ Stage.Over → q.stage ≡ Stage.Over
over_stays (full less) done = done
over_stays (idle e) done = done
over_stays {ended} (move {p = p} {input = input} enough e moves) done = no_move (sym (over_waits p ended input done) ∙ e)

-- with bytes and room enough, moves take a byte, or all lines are printed
moves_go : {ended : Bool} {room : ℕ} {p q : Player} {input text rest : List ℕ} → Moves ended room p input text q rest → move_room ≤ room → Enough ended input
    → (length rest < length input) ⊎ (q.stage ≡ Stage.Over)
moves_go (full less) room enough = absurd (omega arith)
moves_go (idle {p = p} e) room enough = inr (waits_over enough p e)
moves_go {ended} (move {p = p} {input = input} all e moves) room enough =
    let later = moves_shorter moves in
    elim (move_goes p ended input e) [ inl less ↦ inl (omega arith) | inr done ↦ inr (over_stays moves done.1) ]

-- a turn with bytes and room enough takes a byte, or all lines are printed
pub turn_goes_on : {p : Player} {ended : Bool} {input out after : List ℕ} {r : Turn} → Turned p ended input 0 out 0 after r → move_room ≤ length out → Enough ended input
    → (0 < r.taken) ⊎ (r.over ≡ true)
turn_goes_on {input = input} {r = r} turn room enough =
    elim (moves_go turn.moves (omega arith) enough) [
      | inl less ↦ inl (omega (arith, length-drop r.taken input))
      | inr done ↦ inr (turn.done ∙ ap is_over done)
    ]

-- whoever says that all lines are printed is at the last stage
pub over_stage : (stage : Stage) → is_over stage ≡ true → stage ≡ Stage.Over
over_stage Stage.Script e = never e
over_stage Stage.Steps e = never e
over_stage Stage.Over e = refl
