-- `inspection::fields::put_mark` meets its contract: by the mark.
use Rattle.inspection.specs.Marks.{lays_marked, lays_unmarked}
use Rattle.inspection.proofs.fields.put_mark.Goals as goal

pub returns-then-marked : goal.returns-then-marked
returns-then-marked c = rw c.if-marked.true (search lays_marked)

pub returns : goal.returns
returns c = rw c.if-marked.false (search lays_unmarked)
