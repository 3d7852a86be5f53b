-- `replaying::turning::new_player` meets its contract: its monitor is the start on the empty table.
use mathlib.Core.Path.{◌∙◌, ap}
use lib.ListN.{replicate}
use Rattle.monitor.specs.Keeping.{start_on}
use Rattle.replaying.specs.declared.Stage.{Stage}
use Rattle.replaying.proofs.turning.new_player.Goals as goal

pub returns : goal.returns
returns c =
    let started = c.start-started.ensures ∙ ap start_on c.empty.ensures in
    λ i. record { stage = Stage.Script; texts = replicate 4096 0; sizes = replicate 128 0; monitor = (started i).monitor; accepted = 0; refused = 0 }
