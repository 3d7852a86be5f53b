-- `inplace::taking::advance` meets its contract: reports, time, first result, entries.
use Rattle.inplace.specs.Taking.{advanced_whole}
use Rattle.inplace.proofs.taking.advance.Goals as goal

pub returns : goal.returns
returns c = search advanced_whole
