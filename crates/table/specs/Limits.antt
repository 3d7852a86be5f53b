-- "Limits: entries at most 128, imports at most 48, variables at most 32, a label at most 32 bytes, a script at most 4,096 bytes, a step at most 337 bytes."
use Rattle.std.specs.Prelude.{ℕ}

-- each limit, and how many slots and bits go with it
pub record Limits : Type 0 where
  pub entries : ℕ
  pub imports : ℕ
  pub variables : ℕ
  pub label : ℕ
  pub script : ℕ
  pub step : ℕ
  -- "one result per entry slot"
  pub slots : ℕ
  -- "An entry number takes 7 bits"
  pub entry_bits : ℕ

-- the limits of format 1
abbrev pub limits : Limits
limits = record { entries = 128; imports = 48; variables = 32; label = 32; script = 4096; step = 337; slots = 128; entry_bits = 7 }
