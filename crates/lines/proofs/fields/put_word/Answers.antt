-- `lines::fields::put_word` meets its contract: the space, then the text.
use Rattle.lines.specs.Laying.{lays_first}
use Rattle.lines.proofs.fields.put_word.Goals as goal

pub returns : goal.returns
returns c = search lays_first
