-- Where `addable` says so the difference fits 64 bits; elsewhere it is outside the range.
use Rattle.values.proofs.Whole.{difference_is}
use Rattle.values.proofs.numbers.subtract.Goals as goal

pub returns-then-addable : goal.returns-then-addable
returns-then-addable c = difference_is c.ranges.a c.ranges.b c.addable.ensures c.if-addable.true c.ranged.ensures
