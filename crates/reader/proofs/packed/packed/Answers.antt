-- One stage after another: a stage that is refused ends the reading, any other leads on.
use mathlib.Core.Path.{sym, ◌∙◌}
use native.Mathlib.Omega.{arith}
use Rattle.std.proofs.lemmas.Result.{err_from_is_err_and}
use Rattle.reader.specs.Packs.{after_header, after_imports, after_variables, after_entries, packed_whole, stage_stops, stage_goes, head_known, head_left, imports_known, imports_left, variables_known, variables_left, entries_known, entries_left}
use Rattle.reader.proofs.packed.packed.Goals as goal

pub returns-in_err-head : goal.returns-in_err-head
returns-in_err-head c =
    let p = err_from_is_err_and c.from_residual.result c.from_residual.ensures.1 in
    rw (p.1, p.2) (sym (packed_whole c.args.s.now ∙ stage_stops (after_header c.args.s.now) c.header.ensures c.in_err-head.was))

pub imports-requires : goal.imports-requires
imports-requires c =
    let head-on = stage_goes c.header.ensures c.in_ok-head.was in
    let known = head_known c.args.s.now head-on in
    (omega arith, omega arith)

pub returns-in_err-sorted : goal.returns-in_err-sorted
returns-in_err-sorted c =
    let head-on = stage_goes c.header.ensures c.in_ok-head.was in
    let p = err_from_is_err_and c.from_residual-in_err-sorted.result c.from_residual-in_err-sorted.ensures.1 in
    rw (p.1, p.2) (sym (head_left c.args.s.now head-on ∙ stage_stops (after_imports c.args.s.now c.in_ok-head.head.table) c.imports.ensures c.in_err-sorted.was))

pub variables-requires : goal.variables-requires
variables-requires c =
    let head-on = stage_goes c.header.ensures c.in_ok-head.was in
    let imports-on = stage_goes c.imports.ensures c.in_ok-sorted.was in
    let known = imports_known c.args.s.now head-on imports-on in
    (omega arith, omega arith)

pub returns-in_err-started : goal.returns-in_err-started
returns-in_err-started c =
    let head-on = stage_goes c.header.ensures c.in_ok-head.was in
    let imports-on = stage_goes c.imports.ensures c.in_ok-sorted.was in
    let p = err_from_is_err_and c.from_residual-in_err-started.result c.from_residual-in_err-started.ensures.1 in
    rw (p.1, p.2)
    (sym (imports_left c.args.s.now head-on imports-on ∙ stage_stops (after_variables c.args.s.now c.in_ok-head.head.table) c.variables.ensures c.in_err-started.was))

pub rules-requires : goal.rules-requires
rules-requires c =
    let head-on = stage_goes c.header.ensures c.in_ok-head.was in
    let imports-on = stage_goes c.imports.ensures c.in_ok-sorted.was in
    let variables-on = stage_goes c.variables.ensures c.in_ok-started.was in
    let known = variables_known c.args.s.now head-on imports-on variables-on in
    (c.requires, (known.0, known.1.0))

pub returns-in_err-ruled : goal.returns-in_err-ruled
returns-in_err-ruled c =
    let head-on = stage_goes c.header.ensures c.in_ok-head.was in
    let imports-on = stage_goes c.imports.ensures c.in_ok-sorted.was in
    let variables-on = stage_goes c.variables.ensures c.in_ok-started.was in
    let p = err_from_is_err_and c.from_residual-in_err-ruled.result c.from_residual-in_err-ruled.ensures.1 in
    rw (p.1, p.2)
    (sym (variables_left c.args.s.now head-on imports-on variables-on ∙ stage_stops (after_entries c.args.s.now) c.rules.ensures c.in_err-ruled.was))

pub padded-requires : goal.padded-requires
padded-requires c =
    let head-on = stage_goes c.header.ensures c.in_ok-head.was in
    let imports-on = stage_goes c.imports.ensures c.in_ok-sorted.was in
    let variables-on = stage_goes c.variables.ensures c.in_ok-started.was in
    let rules-on = stage_goes c.rules.ensures c.in_ok-ruled.was in
    let known = entries_known c.args.s.now head-on imports-on variables-on rules-on in
    omega arith

pub returns : goal.returns
returns c =
    let head-on = stage_goes c.header.ensures c.in_ok-head.was in
    let imports-on = stage_goes c.imports.ensures c.in_ok-sorted.was in
    let variables-on = stage_goes c.variables.ensures c.in_ok-started.was in
    let rules-on = stage_goes c.rules.ensures c.in_ok-ruled.was in
    c.padded.ensures ∙ sym (entries_left c.args.s.now head-on imports-on variables-on rules-on)
