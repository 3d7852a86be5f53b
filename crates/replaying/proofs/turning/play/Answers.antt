-- `replaying::turning::play` meets its contract: by the stage.
use native.Mathlib.Omega.{arith}
use borrow.Author.Rules.{rules}
use Rattle.replaying.specs.Turning.{stays_over}
use Rattle.replaying.proofs.turning.play.Goals as goal

pub returns-in-Over : goal.returns-in-Over
returns-in-Over c = stays_over (search rules) (omega arith) (omega arith) (search rules)
