-- `inspection::rule::text_line` meets its contract: the number, the word, the text, the line feed.
use Rattle.lines.specs.Spaced.{lays_line, lays_field, lays_last}
use Rattle.inspection.proofs.rule.text_line.Goals as goal

pub returns : goal.returns
returns c = search (lays_line, lays_field, lays_last)
