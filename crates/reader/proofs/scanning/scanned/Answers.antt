-- The length first, then the table, then the labels.
use mathlib.Core.Path.{sym, ◌∙◌, ap}
use native.Mathlib.Omega.{arith}
use Rattle.std.proofs.lemmas.Result.{err_from_is_err_and}
use Rattle.bits.specs.Reading.{got}
use Rattle.reader.specs.Packs.{stage_refused, stage_goes}
use Rattle.reader.specs.ScanLaws.{scan_long, scan_no_table, block_begins}
use Rattle.reader.proofs.scanning.scanned.Goals as goal

pub returns-then-too_long : goal.returns-then-too_long
returns-then-too_long c = sym (scan_long c.args.s.now c.args.k (omega arith))

pub returns-in_err-stage : goal.returns-in_err-stage
returns-in_err-stage c =
    let p = err_from_is_err_and c.from_residual.result c.from_residual.ensures.1 in
    rw (p.1, p.2) (sym (scan_no_table c.args.s.now c.args.k _ (omega arith) (stage_refused c.packed.ensures c.in_err-stage.was)))

pub labels_from-requires : goal.labels_from-requires
labels_from-requires c =
    let there = stage_goes c.packed.ensures c.in_ok-stage.was in
    (omega arith, there ∙ ap (got c.in_ok-stage.stage.table) (sym (block_begins c.args.s.now _ _ there).0))
