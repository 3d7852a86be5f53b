-- The number that comes with a part of a script.
use Rattle.std.specs.Prelude.{List, ℕ, Ok, Err}
use Rattle.refusals.specs.Answers.{Answer}
use Rattle.refusals.specs.Numbering.{number_of}
use Rattle.script.specs.Reader.{read_script}

-- the refusal's number; 0 where nothing is refused
abbrev pub outcome_number : Answer → ℕ
outcome_number (Ok _) = 0
outcome_number (Err r) = number_of r

-- the number of a script's own refusal
abbrev pub script_number : List ℕ → ℕ
script_number s = outcome_number (read_script s).answer
