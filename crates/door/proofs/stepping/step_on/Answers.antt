-- `door::stepping::step_on` meets its contract: the slots are cleared, then the step is taken in place.
use Rattle.std.specs.Prelude.{ℕ, replicate}
use Rattle.std.proofs.Common.{ap, ◌∙◌}
use Rattle.door.specs.Stepping.{steps_on}
use Rattle.door.proofs.stepping.step_on.Goals as goal

pub returns : goal.returns
returns c =
    let cleared = c.fill.ensures.after (λ y same. same) ∙ ap (λ (n : ℕ). replicate n 0) c.requires in
    steps_on cleared c.take.ensures c.outcome.ensures
