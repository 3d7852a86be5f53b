-- Where there is room, the field is put by a window; elsewhere nothing is.
use mathlib.Core.Path.{sym, ◌∙◌}
use Rattle.bits.specs.Window.{not_put}
use Rattle.bits.proofs.putting.put.Goals as goal

pub returns-else-has_room : goal.returns-else-has_room
returns-else-has_room c =
    let a = c.args in
    not_put a.s.now a.at a.w a.v (sym c.has_room.ensures ∙ c.if-has_room.false)
