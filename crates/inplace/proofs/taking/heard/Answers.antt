-- `inplace::taking::heard` meets its contract.
use Rattle.std.proofs.Common.{refl, rules, arith}
use Rattle.inplace.specs.Taking.{listened, takes_refused, takes_late, takes_accepted}
use Rattle.inplace.proofs.taking.heard.Goals as goal

pub returns-in_err-time : goal.returns-in_err-time
returns-in_err-time c =
    takes_refused _ _ _ _ _ _ _ (omega arith) (listened c.hear.ensures refl refl refl) c.from_residual.result _ (search rules) c.in_err-time.was

pub returns-then-late : goal.returns-then-late
returns-then-late c = takes_late _ _ _ _ _ _ _ (omega arith) (listened c.hear.ensures refl refl refl) _ c.in_ok-time.was (omega arith)

pub returns : goal.returns
returns c =
    takes_accepted _ _ _ _ _ _ _ (omega arith) (listened c.hear.ensures refl refl refl) c.in_ok-time.was (omega arith) c.advance.ensures
