-- `replaying::printing::last_line` meets its contract: two words, two numbers, the line feed.
use Rattle.stream.specs.Lines.{last_line}
use Rattle.replaying.specs.Printing.{lays_four}
use Rattle.replaying.proofs.printing.last_line.Goals as goal

pub returns : goal.returns
unfolding last_line
returns c =
    search (lays_four, c.put-at.ensures, c.put_number-at.ensures, c.put_word-at.ensures, c.put_number-at-2.ensures, c.put_byte.ensures)
