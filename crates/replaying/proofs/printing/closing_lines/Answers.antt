-- `replaying::printing::closing_lines` meets its contract: by whether the input stops inside a record.
use Rattle.lines.specs.Laying.{lays_then}
use Rattle.replaying.proofs.printing.closing_lines.Goals as goal

pub returns-then-cut : goal.returns-then-cut
returns-then-cut c = rw c.if-cut.true (search lays_then)
