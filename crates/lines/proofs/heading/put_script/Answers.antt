-- `lines::heading::put_script` meets its contract: the word, the number, the line feed.
use Rattle.lines.specs.Text.{script_line}
use Rattle.lines.specs.Spaced.{lays_line, lays_last}
use Rattle.lines.proofs.heading.put_script.Goals as goal

pub returns : goal.returns
unfolding script_line
returns c = search (lays_line, lays_last)
