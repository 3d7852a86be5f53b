-- `door::reaching::put_reach` meets its contract: the three parts, one after another.
use native.Mathlib.Omega.{arith}
use lib.ListN.{length-set}
use Rattle.door.specs.Marking.{marks_put}
use Rattle.door.proofs.reaching.put_reach.Goals as goal

pub returns : goal.returns
returns c = search marks_put
