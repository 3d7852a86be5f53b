-- `writer::sizes::entry_width` meets its contract: the width of the kind and of the operands that the entry has when it is taken apart.
use mathlib.Core.Path.{ap}
use Prim.Native.Nat.{◌+◌}
use native.Mathlib.Omega.{arith}
use Rattle.kinds.specs.Apart.{wide_of}
use Rattle.kinds.specs.declared.Apart.{Apart}
use Rattle.writer.specs.Widths.{entry_width}
use Rattle.writer.proofs.sizes.entry_width.Goals as goal

pub returns : goal.returns
returns c =
    let e = c.args.e in
    let apart = c.apart_of-apart.ensures in
    let same = ap (λ (a : Apart). 5 + wide_of a.first + wide_of a.second + wide_of a.third) apart in
    omega (arith, same, entry_width e, c.width.ensures, c.width-2.ensures, c.width-3.ensures)
