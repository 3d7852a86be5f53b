-- `writer::packing::put_field` meets its contract: what `bits::put` says of the bytes.
use mathlib.Core.Path.{refl}
use Rattle.writer.specs.Puts.{puts_one}
use Rattle.writer.proofs.packing.put_field.Goals as goal

pub returns : goal.returns
returns c = puts_one c.put.ensures refl
