-- `lines::heading::put_script_refused` meets its contract: the number is the refusal's.
use Rattle.lines.specs.Spaced.{lays_refused}
use Rattle.lines.proofs.heading.put_script_refused.Goals as goal

pub returns : goal.returns
returns c = search lays_refused
