-- `replay::play_all` meets its contract: where it returns because all lines are printed, the writer got what document 01 says of the bytes that the reader had.
use mathlib.Core.List.{[], ◌++◌, flatten}
use Rattle.std.proofs.Common.{refl, sym, ◌≡◌, ◌-◌, ◌^◌, ◌<◌, ◌∙◌, subst, arith, length, take, length-take-le}
use Rattle.stream.specs.Replay.{replayed}
use Rattle.replay.specs.Running.{running_last, read_on}
use Rattle.std.specs.Io.KnownBytes.{Consumes}
use Rattle.lines.specs.Laying.{lays_length}
use Rattle.replaying.specs.Pieces.{over_stage}
use Rattle.replay.specs.Refilling.{refilled_piece}
use Rattle.replay.specs.Playing.{playing_none, playing_turn, playing_read, playing_over}
use Rattle.replay.proofs.play_all.Given.{Over}
use Rattle.replay.proofs.play_all.Goals.{Then-over, After-new_player-player, After-player-1}
use Rattle.replay.proofs.play_all.Goals as goal

-- nothing is read or printed yet
abbrev pub loop-turns-init : goal.loop-turns-init
loop-turns-init g c =
    record {
      input-long = sym c.input_room-input.ensures;
      out-long = sym c.output_room-out.ensures;
      within = omega arith;
      playing = playing_none c.new_player-player.ensures;
    }

-- all lines are printed
pub returns-then-over : goal.returns-then-over
returns-then-over g c =
    let turned = c.play-t.ensures in
    playing_over (playing_turn c.loop-turns.invariant.playing turned c.in_default.ensures.bytes) (over_stage _ (sym turned.done ∙ c.if-over.true))

-- a turn, and then a read
abbrev pub loop-turns-preserved : goal.loop-turns-preserved
loop-turns-preserved g c =
    let going = c.loop-turns.invariant in
    let turned = c.play-t.ensures in
    let refilled = c.refill-held.ensures.held in
    let held = length-take-le c.loop-turns.have c.loop-turns.input (omega (arith, going.input-long, going.within)) in
    let piece = refilled_piece (c.loop-turns.have - c.play-t.result.taken) refilled refl (omega (arith, turned.within, held)) (omega (arith, going.input-long, going.within)) in
    record {
      input-long = refilled.long ∙ going.input-long;
      out-long = lays_length turned.lays ∙ going.out-long;
      within = omega (arith, refilled.within, going.input-long);
      playing =
          playing_read refilled.piece (playing_turn going.playing turned c.in_default.ensures.bytes) refilled.bytes refilled.still
          (subst (Consumes _ _) piece c.refill-held.ensures.bytes) c.refill-held.ensures.end;
    }

-- where the program returns because all lines are printed: what was handed to write, this turn's lines with it, is what document 01 says of the bytes that were
-- read, if they are fewer than 2^64
pub all_printed : (g : Over) (c : Then-over g) → let running = c.loop-turns.invariant.playing.running in length (flatten running.read) < 2 ^ 64
    → running.printed ++ take c.play-t.result.filled c.play-t.new.out ≡ replayed (flatten running.read)
all_printed g c few = running_last c.loop-turns.invariant.playing.running c.play-t.ensures c.if-over.true few

-- the program begins with nothing read and nothing printed
pub begins_empty : (g : Over) (c : After-new_player-player g) → ((loop-turns-init g c).playing.running.read ≡ []) × ((loop-turns-init g c).playing.running.printed ≡ [])
unfolding playing_none
begins_empty g c = (refl, refl)

-- and each turn adds the lines that it hands to write, and the piece that it reads
pub turn_adds : (g : Over) (c : After-player-1 g) → let was = c.loop-turns.invariant.playing.running in let is = (loop-turns-preserved g c).playing.running in
    (is.read ≡ read_on c.loop-turns.ended was.read c.refill-held.ensures.held.piece) × (is.printed ≡ was.printed ++ take c.play-t.result.filled c.play-t.new.out)
unfolding playing_turn playing_read
turn_adds g c = (refl, refl)
