-- `reader::head::imports` meets its contract. The loop's invariant: what is left to read, from here, gives what all of it gives from the start.
use borrow.Author.Rules.{rules}
use mathlib.Core.Path.{sym, ◌∙◌, ap}
use Prim.Native.Nat.{◌+◌, ◌-◌}
use native.Mathlib.Omega.{arith}
use lib.Dec.{eqb}
use Rattle.bits.specs.Reading.{got}
use Rattle.script.specs.Reader.{with_event, imports}
use Rattle.reader.specs.Heads.{import_cut, import_next, imports_done}
use Rattle.reader.proofs.head.imports.Goals as goal

pub returns-in_default : goal.returns-in_default
returns-in_default c =
    let i = c.loop-i.i in
    let cut = import_cut c.args.t.q i c.loop-i-test.true c.loop-i.table c.args.s.now (c.args.at + i) (sym c.field_at.ensures ∙ c.in_default.is) in
    rw (sym c.loop-i.invariant ∙ cut) (search rules)

pub loop-i-preserved : goal.loop-i-preserved
loop-i-preserved c =
    let i = c.loop-i.i in
    let more = with_event c.loop-i.table i (eqb c.in-Some.bit 1) in
    ap (imports (c.args.t.q - (i + 1)) (i + 1) more c.args.s.now) {x = c.args.at + (i + 1)} {y = c.args.at + i + 1} (omega arith)
    ∙ sym (import_next c.args.t.q i c.loop-i-test.true c.loop-i.table c.args.s.now (c.args.at + i)
    c.in-Some.bit (sym c.field_at.ensures ∙ c.in-Some.is))
    ∙ c.loop-i.invariant

pub returns : goal.returns
returns c =
    let i = c.loop-i.i in
    ap (got c.loop-i.table) {x = c.args.at + c.args.t.q} {y = c.args.at + i} (omega arith)
    ∙ sym (imports_done c.args.t.q i c.loop-i-test.false c.loop-i.table c.args.s.now (c.args.at + i))
    ∙ c.loop-i.invariant
