-- `replay::source::refill` meets its contract: what was not taken is kept, and more is read after it.
use Rattle.replay.specs.Refilling.{refilled_kept}
use Rattle.replay.proofs.source.refill.Goals as goal

pub returns-clause-held : goal.returns-clause-held
returns-clause-held g c = refilled_kept c.requires.0 c.requires.1 c.keep-kept.ensures.value c.keep-kept.ensures.input_after c.more.ensures.held
