-- `inspection::lines` meets its contract: by the reader's answer.
use Rattle.lines.specs.Laying.{lays_within}
use Rattle.inspection.specs.Scripts.{read_few, lays_accepted, lays_refused}
use Rattle.inspection.proofs.lines.Goals as goal

pub rules-requires : goal.rules-requires
rules-requires c = search read_few

pub returns-in-Ok : goal.returns-in-Ok
returns-in-Ok c =
    let laid = lays_accepted c.args.script.now c.read-read.ensures c.in-Ok.is c.put_script-at.ensures c.rules.ensures in
    record { lays = laid; within = (lays_within laid).1 }

pub returns-in-Err : goal.returns-in-Err
returns-in-Err c =
    let laid = lays_refused c.args.script.now c.read-read.ensures c.in-Err.is c.put_script_refused.ensures in
    record { lays = laid; within = (lays_within laid).1 }
