-- By the test for room, which is the definition's own.
use Rattle.bits.specs.Bits.{field_at}
use Rattle.bits.proofs.taking.field_at.Goals as goal

pub returns-then-has_room : goal.returns-then-has_room
unfolding field_at
returns-then-has_room c = rw (← c.has_room.ensures, c.if-has_room.true, c.taken.ensures)

pub returns-else-has_room : goal.returns-else-has_room
unfolding field_at
returns-else-has_room c = rw (← c.has_room.ensures, c.if-has_room.false)
