-- `writer::packing::put_variables` meets its contract. The loop's invariant: the numbers passed are put.
use native.Mathlib.Omega.{arith}
use Rattle.table.specs.Tables.{initial_of}
use Rattle.script.specs.Writer.{number_parts}
use Rattle.writer.specs.Puts.{puts_start, puts_joined}
use Rattle.writer.specs.Widths.{variables_width}
use Rattle.writer.proofs.packing.put_variables.Goals as goal

pub loop-x-init : goal.loop-x-init
loop-x-init c = let t = c.args.t in puts_start (λ x. number_parts (initial_of t x))

pub put_number-at-requires : goal.put_number-at-requires
put_number-at-requires c =
    let loop = c.loop-x in
    omega (arith, loop.invariant.ends, variables_width c.args.t loop.x)

pub loop-x-preserved : goal.loop-x-preserved
unfolding initial_of
loop-x-preserved c = search puts_joined
