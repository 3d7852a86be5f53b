-- What a check answers: that nothing is wrong, or the refusal.
use Rattle.std.specs.Prelude.{Result}
use Rattle.refusals.specs.declared.Refusal.{Refusal}

-- `Ok tt` where nothing is refused, else `Err` and the refusal
abbrev pub Answer : Type 0
Answer = Result (Unit {0}) Refusal
