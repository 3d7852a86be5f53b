-- `writer::packing::put_imports` meets its contract. The loop's invariant: the bits of the imports passed are put.
use mathlib.Core.Bool.{Bool, true, false, cond}
use mathlib.Core.Path.{◌≡◌, refl}
use native.Mathlib.Omega.{arith}
use mir.Val.{bool_byte}
use Rattle.table.specs.Tables.{is_event}
use Rattle.script.specs.Writer.{import_parts}
use Rattle.writer.specs.Puts.{puts_start, puts_joined}
use Rattle.writer.specs.Widths.{imports_width}
use Rattle.writer.proofs.packing.put_imports.Goals as goal

-- a sort as a bit
bit-of : (event : Bool) → bool_byte event ≡ cond event 1 0
bit-of true = refl
bit-of false = refl

pub loop-i-init : goal.loop-i-init
loop-i-init c = let t = c.args.t in puts_start (import_parts t)

pub put_field-at-requires : goal.put_field-at-requires
put_field-at-requires c =
    let loop = c.loop-i in
    omega (arith, loop.invariant.ends, imports_width c.args.t loop.i)

pub loop-i-preserved : goal.loop-i-preserved
unfolding import_parts is_event
loop-i-preserved c =
    let t = c.args.t in
    let loop = c.loop-i in
    let put = c.put_field-at.ensures in
    puts_joined loop.i (import_parts t) loop.invariant (rw (← bit-of (is_event t loop.i)) put)
