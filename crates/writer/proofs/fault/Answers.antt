-- `writer::fault` meets its contract: a sound table is within its limits.
use native.Mathlib.Omega.{arith}
use Rattle.writer.specs.Writing.{packed_small, within_told}
use Rattle.writer.proofs.fault.Goals as goal

pub packed_size-requires : goal.packed_size-requires
packed_size-requires c = within_told c.args.t c.fault.ensures c.in_ok-fault.was

pub overflow_add-packed_size : goal.overflow_add-packed_size
overflow_add-packed_size c = omega (arith, c.packed_size.ensures, packed_small c.args.t (within_told c.args.t c.fault.ensures c.in_ok-fault.was))
