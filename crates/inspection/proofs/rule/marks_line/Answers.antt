-- `inspection::rule::marks_line` meets its contract: the number, the word, the marks, the line feed.
use Rattle.lines.specs.Spaced.{lays_line, lays_field}
use Rattle.inspection.proofs.rule.marks_line.Goals as goal

pub returns : goal.returns
returns c = search (lays_line, lays_field)
