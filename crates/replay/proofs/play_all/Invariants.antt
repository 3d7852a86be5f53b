-- `replay::play_all` is a run: the pieces that were read and the lines that were written so far are the beginning of one. The measure is the number of turns that are left.
use Rattle.std.proofs.Common.{◌≡◌, ◌≤◌, length, take}
use Rattle.replay.specs.Playing.{Playing}
use Rattle.replay.proofs.play_all.Given as goal

abbrev pub invariant-loop-turns : goal.invariant-loop-turns
invariant-loop-turns g l =
    record {
      input-long : length l.input ≡ 131072;
      out-long : length l.out ≡ 65536;
      within : l.have ≤ 131072;
      playing :
          Playing (g.R.Read.remaining l.initial.source) (g.R.Read.remaining l.source) (g.W.Write.contents l.initial.output) (g.W.Write.contents l.output) l.player
          (take l.have l.input) l.ended;
    }

abbrev pub decreases-loop-turns : goal.decreases-loop-turns
decreases-loop-turns g l = l.turns
