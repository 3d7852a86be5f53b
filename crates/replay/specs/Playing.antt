-- What the reader has given and what the writer has got: the pieces of the run so far, and its lines.
use Rattle.std.specs.Prelude.{Bool, true, false, ◌⊎◌, Option, None, Some, IfSome, IsTrue, ◌≡◌, refl, ℕ, ◌^◌, ◌<◌, length, take, drop}
use mathlib.Core.List.{List, [], ◌∷◌, ◌++◌, append_assoc, append-nil, flatten}
use Rattle.std.proofs.Common.{inl, inr, sym, ◌∙◌, ap, subst}
use Rattle.std.proofs.KnownBytes.{Appends-nil, Appends-trans, Consumes-nil, Consumes-trans, Consumes-all}
use Rattle.std.specs.Io.KnownBytes.{Appends, Consumes, IsAtEnd}
use Rattle.replies.specs.Plain.{never}
use Rattle.stream.specs.Replay.{replayed}
use Rattle.replaying.specs.declared.Stage.{Stage}
use Rattle.replaying.specs.declared.Player.{Player}
use Rattle.replaying.specs.declared.Turn.{Turn}
use Rattle.replaying.specs.Moving.{new_player, Turned}
use Rattle.replaying.specs.Pieces.{Run, stops}
use Rattle.replaying.specs.Whole.{run_replayed}
use Rattle.replay.specs.Running.{Running, running_none, running_turn, running_read, read_on}

-- the reader had `given` and has `left`, and the writer held `had` and now holds `has`, as far as the two say so; after the end of the input all of it was read
pub record Playing (given left had has : Option (List ℕ)) (p : Player) (held : List ℕ) (ended : Bool) : Type 0 where
  pub running : Running p held ended
  pub taken : Consumes given left (flatten running.read)
  pub put : Appends had has running.printed
  pub all : ended ≡ true → IfSome given (λ stream. flatten running.read ≡ stream)

-- nothing is read or printed yet
unfoldable pub playing_none : {given had : Option (List ℕ)} {p : Player} → p ≡ new_player → Playing given given had had p [] false
unfolding flatten
playing_none {given} {had} e = record { running = running_none e; taken = Consumes-nil given; put = Appends-nil had; all = λ over. never over }

-- the lines of a turn are written
unfoldable pub playing_turn : {given left had was has : Option (List ℕ)} {p : Player} {held out after : List ℕ} {ended : Bool} {r : Turn} → Playing given left had was p held ended
    → Turned p ended held 0 out 0 after r → Appends was has (take r.filled after) → Playing given left had has r.player (drop r.taken held) ended
playing_turn {had = had} {was} {has} playing turn written =
    record {
      running = running_turn playing.running turn;
      taken = playing.taken;
      put = Appends-trans had was has _ _ playing.put written;
      all = playing.all;
    }

-- the bytes of pieces and of a last one
pub flatten_last : (pieces : List (List ℕ)) (last : List ℕ) → flatten pieces ++ last ≡ flatten (pieces ++ (last ∷ []))
unfolding flatten
flatten_last [] last = sym (append-nil last)
flatten_last (piece ∷ pieces) last = append_assoc piece (flatten pieces) last ∙ ap (λ (l : List ℕ). piece ++ l) (flatten_last pieces last)

-- those of the pieces with one more; after the end of the input nothing is read
pub read_bytes : (was : Bool) (read : List (List ℕ)) (piece : List ℕ) → (was ≡ true → piece ≡ []) → flatten read ++ piece ≡ flatten (read_on was read piece)
read_bytes true read piece still = ap (λ (l : List ℕ). flatten read ++ l) (still refl) ∙ append-nil (flatten read)
read_bytes false read piece still = flatten_last read piece

-- after the end of the input they are all
pub read_all : (given rest : Option (List ℕ)) (was : Bool) (read : List (List ℕ)) (piece : List ℕ) → (was ≡ true → IfSome given (λ stream. flatten read ≡ stream))
    → Consumes given rest (flatten (read_on was read piece)) → IsTrue was ⊎ IsAtEnd rest → IfSome given (λ stream. flatten (read_on was read piece) ≡ stream)
read_all given rest true read piece all taken end = all refl
read_all given rest false read piece all taken (inl over) = never over
read_all given rest false read piece all taken (inr none) = Consumes-all given rest (flatten (read ++ (piece ∷ []))) [] _ taken none refl

-- a piece is read
unfoldable pub playing_read : {given left rest had has : Option (List ℕ)} {p : Player} {held after : List ℕ} {was ended : Bool} (piece : List ℕ) → Playing given left had has p held was
    → after ≡ held ++ piece → (was ≡ true → (piece ≡ []) × (ended ≡ true)) → Consumes left rest piece → (IsTrue ended → IsTrue was ⊎ IsAtEnd rest)
    → Playing given rest had has p after ended
playing_read {given} {left} {rest} {was = was} {ended = ended} piece playing e still read end =
    let read-on = read_bytes was playing.running.read piece (λ over. (still over).0) in
    let taken = subst (Consumes given rest) read-on (Consumes-trans given left rest _ _ playing.taken read) in
    record {
      running = running_read piece playing.running e still;
      taken = taken;
      put = playing.put;
      all = λ over. read_all given rest was playing.running.read piece playing.all taken (end over);
    }

-- where all lines are printed, they are those that document 01 says of the stream: of what was read, and of whatever is left where not all was read
lines_over : {p : Player} {held stream : List ℕ} {ended : Bool} (running : Running p held ended) (pieces : List (List ℕ)) → p.stage ≡ Stage.Over → (ended ≡ true → pieces ≡ [])
    → flatten (running.read ++ pieces) ≡ stream → length stream < 2 ^ 64 → running.printed ≡ replayed stream
lines_over running pieces done none e few =
    let run = running.onto pieces [] none (stops done) in
    run_replayed (subst (Run new_player [] (running.read ++ pieces)) (append-nil running.printed) run) (subst (λ (l : List ℕ). length l < 2 ^ 64) (sym e) few) ∙ ap replayed e

-- so they are after the turn that is the last
pub playing_over : {given left had has : Option (List ℕ)} {p : Player} {held : List ℕ} {ended : Bool} → Playing given left had has p held ended → p.stage ≡ Stage.Over
    → IfSome given (λ stream. length stream < 2 ^ 64 → Appends had has (replayed stream))
playing_over {given = None} playing done = tt
playing_over {given = Some stream} {left = None} playing done = absurd playing.taken
playing_over {given = Some stream} {left = Some rest} {had = had} {has = has} {ended = true} playing done =
    λ few. subst (Appends had has) (lines_over playing.running [] done (λ over. refl) (ap flatten (append-nil playing.running.read) ∙ playing.all refl) few) playing.put
playing_over {given = Some stream} {left = Some rest} {had = had} {has = has} {ended = false} playing done =
    λ few. subst (Appends had has)
    (lines_over playing.running (rest ∷ []) done (λ over. never over) (sym (flatten_last playing.running.read rest) ∙ sym playing.taken) few) playing.put
