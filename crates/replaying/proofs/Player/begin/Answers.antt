-- `replaying::Player::begin` meets its contract: by the room, and by whether the script is wholly there.
use mathlib.Core.Path.{subst}
use Prim.Native.Nat.{◌+◌, ◌-◌}
use native.Mathlib.Omega.{arith}
use lib.ListN.{take, drop}
use Rattle.script.specs.Reader.{script_of}
use Rattle.lines.specs.Laying.{lays_length, lays_within}
use Rattle.replaying.specs.declared.framing.Record.{Record}
use Rattle.replaying.specs.Framing.{Framed}
use Rattle.replaying.specs.Turning.{opening_full, opening_goes, opened_on}
use Rattle.replaying.proofs.Player.begin.Goals as goal

pub returns-then-out-lt-MOVE_ROOM : goal.returns-then-out-lt-MOVE_ROOM
returns-then-out-lt-MOVE_ROOM c = search opening_full

pub follow-requires : goal.follow-requires
follow-requires c =
    let framed : Framed c.args.input.now 0 (Record.Whole c.in-Whole.size) = subst (Framed c.args.input.now 0) c.in-Whole.is c.record_at.ensures in
    let o = c.opened-o in
    let script = take (2 + c.in-Whole.size - 2) (drop 2 c.args.input.now) in
    (opened_on c.args.self script (script_of script) o.ensures.player, framed.ends, omega (arith, (lays_within o.ensures.line).1, lays_length o.ensures.line))

-- the script's line, and the turn that follows
pub returns : goal.returns
returns c =
    let framed : Framed c.args.input.now 0 (Record.Whole c.in-Whole.size) = subst (Framed c.args.input.now 0) c.in-Whole.is c.record_at.ensures in
    opening_goes c.requires (omega (arith, c.if-out-lt-MOVE_ROOM.false)) framed c.opened-o.ensures.player c.opened-o.ensures.line c.follow.ensures
