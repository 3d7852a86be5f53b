-- Which of the byte strings that are offered as steps become the history.
use Rattle.std.specs.Prelude.{List, [], ◌∷◌, ℕ, suc}
use Rattle.bits.specs.Reading.{Got, got, refused}
use Rattle.table.specs.declared.Table.{Table}
use Rattle.step.specs.Steps.{Step}
use Rattle.step.specs.Reader.{read_step}
use Rattle.history.specs.History.{History}

-- "22: time not later than the last accepted step's": the earliest time that may come next
abbrev pub earliest : History → ℕ
earliest [] = 0
earliest (s ∷ h) = suc s.time

-- a byte string offered as the next step: the step, or the refusal
unfoldable pub offered : Table → History → List ℕ → Got Step
offered t h bytes = read_step t (earliest h) bytes 0

-- "The history is the list of accepted steps": a refused one leaves it as it was
abbrev pub grown : History → Got Step → History
grown h (got s end) = s ∷ h
grown h (refused r) = h

-- the history after byte strings were offered to a sound table; the strings too stand the latest first
unfoldable pub history_of : Table → List (List ℕ) → History
history_of t [] = []
history_of t (bytes ∷ before) = let h = history_of t before in grown h (offered t h bytes)
