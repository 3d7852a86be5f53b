-- `writer::fill` meets its contract: the packed table fills the first bytes, and the block those behind it.
use mathlib.Core.Path.{◌∙◌}
use native.Mathlib.Omega.{arith}
use borrow.Author.Rules.{rules}
use Rattle.writer.specs.Puts.{puts_length}
use Rattle.writer.specs.Writing.{packed_ends, script_length, filled}
use Rattle.writer.proofs.fill.Goals as goal

pub copy-requires : goal.copy-requires
copy-requires c =
    let pack = c.pack-packed in
    omega (arith, packed_ends c.args.t pack.result pack.ensures, puts_length pack.ensures)

pub returns-clause-size : goal.returns-clause-size
returns-clause-size c =
    let pack = c.pack-packed in
    omega (arith, packed_ends c.args.t pack.result pack.ensures, script_length c.args.t c.args.block.now)

pub returns-clause-bytes : goal.returns-clause-bytes
returns-clause-bytes c =
    let a = c.args in
    let pack = c.pack-packed in
    c.copy.ensures
    ∙ filled a.t a.block.now a.dst.now pack.new.dst pack.result (search rules) c.requires.fits pack.ensures
