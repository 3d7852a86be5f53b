-- `lines::fields::put_number` meets its contract: the space, then the digits.
use Rattle.lines.specs.Laying.{lays_first}
use Rattle.lines.proofs.fields.put_number.Goals as goal

pub returns : goal.returns
returns c = search lays_first
