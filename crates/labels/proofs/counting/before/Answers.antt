-- `labels::before` meets its contract: the slots before k, or all of them, hold the labels.
use borrow.Author.Rules.{rules}
use native.Mathlib.Omega.{arith}
use Rattle.labels.specs.Counting.{labels_counted}
use Rattle.labels.proofs.counting.before.Goals as goal

pub returns : goal.returns
returns c = rw (← labels_counted c.args.t c.args.k (omega arith)) (search rules)
