-- One operand after another, as the code carries them: what was taken last, or the refusal.
use Rattle.std.specs.Prelude.{ℕ, Ok, Err, Result}
use Rattle.refusals.specs.declared.Refusal.{Refusal}
use Rattle.bits.specs.Reading.{Got, got, refused}
use Rattle.entries.specs.declared.Taking.{Taking}

-- what a taking stands for: its number and the bit after it, or the refusal
abbrev pub got_of : Result Taking Refusal → Got ℕ
got_of (Ok x) = got x.number x.next
got_of (Err r) = refused r
