-- The number in the bytes so far, and that it fits as many bytes.
use Rattle.std.proofs.Common.{◌≡◌, ◌<◌, ◌^◌}
use Rattle.casebook.specs.Cases.{number_of}
use Rattle.casebook.proofs.numbers.number.Given as goal

abbrev pub invariant-loop-i : goal.invariant-loop-i
invariant-loop-i l = (l.number ≡ number_of l.i l.rest) × (l.number < 256 ^ l.i)
