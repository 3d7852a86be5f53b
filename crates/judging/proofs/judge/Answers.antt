-- `judging::judge` meets its contract: past the kinds the rows have ended.
use Rattle.std.proofs.Common.{◌∙◌, arith}
use Rattle.judging.specs.Rows.{past_rows}
use Rattle.judging.proofs.judge.Goals as goal

pub returns-in_default : goal.returns-in_default
returns-in_default c =
    let ended = past_rows _ _ _ _ _ _ _ _ _ (omega arith) in
    (c.keep-in_default.ensures.0 ∙ ended.0, c.keep-in_default.ensures.1 ∙ ended.1)
