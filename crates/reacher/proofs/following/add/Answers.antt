-- `reacher::following::add` meets its contract: an entry that is not marked has a place, since no more are counted than there are slots.
use native.Mathlib.Omega.{arith}
use Rattle.reacher.specs.Adding.{adds_new, adds_old, adds_none, room_left}
use Rattle.reacher.proofs.following.add.Goals.{else-j-lt-ENTRIES-via-then-j-lt-ENTRIES+else-not-marks-j, else-j-lt-ENTRIES-via-else-j-lt-ENTRIES}
use Rattle.reacher.proofs.following.add.Goals as goal

pub returns-then-not-marks-j : goal.returns-then-not-marks-j
returns-then-not-marks-j c = search adds_new

pub returns : goal.returns
returns c =
    elim c.else-j-lt-ENTRIES.branch [
      | else-j-lt-ENTRIES-via-then-j-lt-ENTRIES+else-not-marks-j w ↦ search adds_old
      | else-j-lt-ENTRIES-via-else-j-lt-ENTRIES w ↦ search adds_none
    ]

pub offset_bounds-order-count : goal.offset_bounds-order-count
offset_bounds-order-count c = omega (arith, room_left c.requires c.if-j-lt-ENTRIES.true c.if-not-marks-j.true)

pub bounds-order-count : goal.bounds-order-count
bounds-order-count c = omega (arith, room_left c.requires c.if-j-lt-ENTRIES.true c.if-not-marks-j.true)

pub overflow_add-result : goal.overflow_add-result
overflow_add-result c = omega (arith, room_left c.requires c.if-j-lt-ENTRIES.true c.if-not-marks-j.true)
