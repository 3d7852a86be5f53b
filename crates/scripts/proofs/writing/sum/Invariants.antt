-- The total stays below 2^32, so that 31 times it and a byte fit.
use Rattle.std.proofs.Common.{◌<◌, ◌^◌}
use Rattle.scripts.proofs.writing.sum.Given as goal

abbrev pub invariant-loop-b : goal.invariant-loop-b
invariant-loop-b l = l.total < 2 ^ 32
