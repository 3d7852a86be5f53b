-- `lines::put_two` meets its contract: one digit, and then the other.
use Rattle.lines.specs.Decimals.{lays_last_two}
use Rattle.lines.proofs.put_two.Goals as goal

pub returns : goal.returns
returns c = search lays_last_two
