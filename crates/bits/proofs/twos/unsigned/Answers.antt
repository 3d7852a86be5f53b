-- The number itself, a negative one and 2^48, and 0 below -2^48.
use Rattle.bits.proofs.Complement.{unsigned_self, unsigned_below, raised_is}
use Rattle.bits.proofs.twos.unsigned.Goals as goal

pub returns-then-itself : goal.returns-then-itself
returns-then-itself c = unsigned_self c.ranges.z c.if-itself.true

pub returns-then-z-geminus281474976710656 : goal.returns-then-z-geminus281474976710656
returns-then-z-geminus281474976710656 c = raised_is c.ranges.z c.if-itself.false c.if-z-geminus281474976710656.true

pub returns : goal.returns
returns c = unsigned_below c.ranges.z c.if-itself.false c.if-z-geminus281474976710656.false
