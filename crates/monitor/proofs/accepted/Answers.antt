-- `monitor::accepted` meets its contract: 29 before all else, then by what was read.
use Rattle.std.proofs.Common.{◌≡◌, Err, Result, sym, rules}
use Rattle.refusals.specs.declared.Refusal.{Refusal}
use Rattle.monitor.specs.declared.Monitor.{Monitor}
use Rattle.monitor.specs.declared.Stepped.{Stepped}
use Rattle.monitor.specs.Stepping.{refused_step, stepped_from, taken_by}
use Rattle.monitor.specs.Replying.{taken_time, step_unsound, step_refused, step_accepted}
use Rattle.monitor.proofs.accepted.Goals as goal

-- a refusal that was handed back
refused : (m : Monitor) (answer : Result Stepped Refusal) (r : Refusal) → answer ≡ Err r → stepped_from m answer ≡ refused_step r m
refused m answer r is = rw is

pub returns-in_err-unsound : goal.returns-in_err-unsound
returns-in_err-unsound c =
    step_unsound c.args.m c.unsound.result c.unsound.ensures c.args.s.now _ _ c.in_err-unsound.was (refused c.args.m c.from_residual.result _ (search rules))

pub returns-in_err-taken : goal.returns-in_err-taken
unfolding taken_by
returns-in_err-taken c =
    step_refused c.args.m c.unsound.result c.unsound.ensures c.args.s.now _ c.in_ok-unsound.was c.read-taken.result c.read-taken.ensures _ c.in_err-taken.was
    (refused c.args.m c.from_residual-in_err-taken.result _ (search rules))

pub advance-requires : goal.advance-requires
unfolding taken_by
advance-requires c = (sym c.in_ok-unsound.ensures, taken_time c.args.m c.args.s.now c.read-taken.result c.read-taken.ensures)

pub returns : goal.returns
unfolding taken_by
returns c =
    step_accepted c.args.m c.unsound.result c.unsound.ensures c.args.s.now _ c.in_ok-unsound.was c.read-taken.result c.read-taken.ensures c.in_ok-taken.was
    c.advance.ensures
