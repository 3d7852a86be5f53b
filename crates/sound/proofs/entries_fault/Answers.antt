-- `sound::entries_fault` meets its contract. The loop's invariant: the sorts of the entries passed are kept, and none of them has a fault.
use borrow.Author.Rules.{rules}
use lib.ListN.{length-set}
use mathlib.Core.Path.{refl, sym, ◌∙◌}
use native.Mathlib.Nat.{not-suc-le-zero}
use Rattle.std.proofs.lemmas.Result.{err_from_is_err_and}
use Rattle.refusals.specs.Numbering.{first_fault}
use Rattle.table.specs.Tables.{entry_at}
use Rattle.sound.specs.Laws.{entry_fault, entry_judged, sorts_more}
use Rattle.sound.specs.Firsts.{fault_none, fault_found}
use Rattle.sound.proofs.entries_fault.Goals as goal

pub loop-k-init : goal.loop-k-init
unfolding first_fault
loop-k-init c = record { room = refl; sorted = λ a l. absurd (not-suc-le-zero l); none = refl }

pub returns-in_err-judge_all : goal.returns-in_err-judge_all
unfolding entry_at
returns-in_err-judge_all c =
    let p = err_from_is_err_and c.from_residual.result c.from_residual.ensures.1 in
    let found =
    fault_found (entry_fault c.args.t) _ c.loop-k.k _ c.loop-k-test.true c.loop-k.invariant.none
    (entry_judged c.args.t c.loop-k.k c.loop-k.sorts c.loop-k.invariant.sorted c.apart_of-parts.ensures c.judge_all.ensures ∙ c.in_err-judge_all.was) in
    rw (p.1, p.2) (sym found)

pub loop-k-preserved : goal.loop-k-preserved
unfolding entry_at
loop-k-preserved c =
    record {
      room = simp length-set c.loop-k.invariant.room;
      sorted = sorts_more c.args.t c.loop-k.k c.loop-k.sorts c.loop-k.invariant.sorted c.apart_of-parts.ensures c.sort_of_kind.ensures (search rules);
      none =
          fault_none (entry_fault c.args.t) c.loop-k.k c.loop-k.invariant.none
          (entry_judged c.args.t c.loop-k.k c.loop-k.sorts c.loop-k.invariant.sorted c.apart_of-parts.ensures c.judge_all.ensures ∙ c.in_ok-judge_all.was);
    }
