-- `replaying::printing::word_line` meets its contract: the time, the word, the entry number, the label, the line feed.
use Rattle.replaying.specs.Printing.{lays_four}
use Rattle.replaying.proofs.printing.word_line.Goals as goal

pub returns : goal.returns
returns c =
    search (lays_four, c.put_decimal-at.ensures, c.put_word-at.ensures, c.put_number-at.ensures, c.put_word-at-2.ensures, c.put_byte.ensures)
