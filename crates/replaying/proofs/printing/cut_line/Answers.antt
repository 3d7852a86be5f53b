-- `replaying::printing::cut_line` meets its contract: the word and the line feed are laid as one text.
use borrow.Author.Rules.{rules}
use Rattle.lines.specs.Text.{line}
use Rattle.stream.specs.Lines.{cut_line}
use Rattle.replaying.proofs.printing.cut_line.Goals as goal

pub returns : goal.returns
unfolding line cut_line
returns c = search rules
