-- `lines::heading::refused_line` meets its contract: the two words, the number, the line feed.
use Rattle.lines.specs.Spaced.{lays_line, lays_field, lays_last}
use Rattle.lines.proofs.heading.refused_line.Goals as goal

pub returns : goal.returns
returns c =
    search (lays_line, lays_field, lays_last, c.put-at.ensures, c.put_word-at.ensures, c.put_number-at.ensures, c.put_byte.ensures)
