-- `inspection::entry_lines` meets its contract: by whether the entry has a label.
use Rattle.table.specs.Tables.{entry_at}
use Rattle.inspection.specs.Rules.{lays_labelled, lays_unlabelled}
use Rattle.inspection.proofs.entry_lines.Goals as goal

pub returns-then-labelled : goal.returns-then-labelled
unfolding entry_at
returns-then-labelled c = search lays_labelled

pub returns : goal.returns
unfolding entry_at
returns c = search lays_unlabelled
