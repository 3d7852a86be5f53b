-- `replaying::printing::refused_line` meets its contract: the word, the refusal's number, the line feed.
use Rattle.lines.specs.Spaced.{lays_line, lays_last}
use Rattle.replaying.specs.Printing.{lays_refused_number}
use Rattle.replaying.proofs.printing.refused_line.Goals as goal

pub returns : goal.returns
returns c = search (lays_refused_number, lays_line, lays_last)
