-- All labels decide, and the wanted one is found among them.
use Rattle.std.proofs.Common.{Ok}
use mathlib.Core.Bool.{Bool}
use mathlib.Core.List.{List}
use mathlib.Core.Path.{sym, ◌∙◌, ap}
use Prim.Native.Nat.{ℕ, ◌-◌, ◌*◌, ◌/◌}
use native.Mathlib.Omega.{arith}
use lib.ListN.{length}
use Rattle.std.proofs.lemmas.Result.{err_from_is_err_and}
use Rattle.table.specs.declared.Table.{Table}
use Rattle.reader.specs.Scans.{shown}
use Rattle.reader.specs.ScanLaws.{whole_scan, scan_no_labels, scan_whole, block_begins, table_within}
use Rattle.reader.proofs.scanning.labels_from.Goals as goal

pub has_label-requires : goal.has_label-requires
has_label-requires c = table_within c.args.s.now c.args.table (8 * c.args.from) c.requires.1

pub overflow_sub-result : goal.overflow_sub-result
overflow_sub-result c = omega (arith, (block_begins c.args.s.now c.args.table (8 * c.args.from) c.requires.1).1)

pub returns-in_err-all : goal.returns-in_err-all
returns-in_err-all c =
    let bytes : List ℕ = c.args.s.now in
    let table : Table = c.args.table in
    let from : ℕ = c.args.from in
    let p = err_from_is_err_and c.from_residual.result c.from_residual.ensures.1 in
    let refused = scan_no_labels bytes table (8 * from) c.requires.0 c.requires.1 c.args.k c.before-count.result c.before-wanted.result
    c.read-all.result _ c.before-count.ensures c.read-all.ensures c.in_err-all.was in
    rw (p.1, p.2) (sym refused)

pub returns : goal.returns
returns c =
    let bytes : List ℕ = c.args.s.now in
    let table : Table = c.args.table in
    let from : ℕ = c.args.from in
    ap (λ (n : ℕ). record { answer = Ok tt; table = table; block = record { from = n; size = length bytes - n }; label = c.shown_label.result }) {x = from} {y = 8 * from / 8} (omega arith)
    ∙ ap (whole_scan bytes table (8 * from) c.requires.0 c.requires.1) (c.shown_label.ensures ∙ ap (λ (named : Bool). shown named c.read-all.result.span) c.has_label.ensures)
    ∙ sym (scan_whole bytes table (8 * from) c.requires.0 c.requires.1 c.args.k c.before-count.result c.before-wanted.result
    c.read-all.result c.before-count.ensures c.before-wanted.ensures c.read-all.ensures c.in_ok-all.was)
