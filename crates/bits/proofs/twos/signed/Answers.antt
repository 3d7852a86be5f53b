-- Below 2^47 the number itself, below 2^48 less 2^48, and -1 beyond.
use native.Mathlib.Omega.{arith}
use Rattle.bits.proofs.Complement.{signed_low, lowered_is, signed_beyond}
use Rattle.bits.proofs.twos.signed.Goals as goal

pub returns-then-low : goal.returns-then-low
returns-then-low c = signed_low c.args.v (omega arith)

pub returns-then-v-lt281474976710656 : goal.returns-then-v-lt281474976710656
returns-then-v-lt281474976710656 c = lowered_is c.args.v (omega arith) (omega arith)

pub returns : goal.returns
returns c = signed_beyond c.args.v (omega arith) (omega arith)
