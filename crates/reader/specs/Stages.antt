-- How far reading came, in the words of the definition.
use Rattle.std.specs.Prelude.{Ok, Err, Result}
use Rattle.refusals.specs.declared.Refusal.{Refusal}
use Rattle.bits.specs.Reading.{Got, got, refused}
use Rattle.table.specs.declared.Table.{Table}
use Rattle.reader.specs.declared.Stage.{Stage}

-- a stage as the definition has it: the table so far with the bit after it, or the refusal
abbrev pub reached : Result Stage Refusal → Got Table
reached (Ok stage) = got stage.table stage.at
reached (Err r) = refused r
