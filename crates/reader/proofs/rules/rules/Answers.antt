-- An entry that is refused refuses the script; one that is read is the next in the table; after n the rules are read.
use mathlib.Core.Path.{sym, ◌∙◌, ap}
use native.Mathlib.Omega.{arith}
use Rattle.std.proofs.lemmas.Result.{err_from_is_err_and}
use Rattle.kinds.specs.declared.Apart.{Apart}
use Rattle.kinds.specs.Apart.{sort_of_kind}
use Rattle.reader.specs.Rules.{ruled_refused, ruled_next, ruled_done}
use Rattle.reader.proofs.rules.rules.Goals as goal

pub returns-in_err-entry : goal.returns-in_err-entry
returns-in_err-entry c =
    let p = err_from_is_err_and c.from_residual.result c.from_residual.ensures.1 in
    rw (p.1, p.2) (sym (ruled_refused c.loop-k.invariant c.loop-k-test.true c.requires.0 _ (sym c.read.ensures ∙ c.in_err-entry.was)))

pub loop-k-preserved : goal.loop-k-preserved
loop-k-preserved c =
    ruled_next c.loop-k.invariant (omega arith) (omega arith) (omega arith) c.in_ok-entry.entry c.in_ok-entry.next c.sort_of_kind.result
    (sym c.read.ensures ∙ c.in_ok-entry.was)
    (c.sort_of_kind.ensures ∙ ap (λ (x : Apart). sort_of_kind x.kind) c.apart_of.ensures)

pub returns : goal.returns
returns c = sym (ruled_done c.loop-k.invariant (omega arith))
