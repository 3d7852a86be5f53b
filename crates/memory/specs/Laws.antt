-- What is kept, found again: a mark, and a time.
use Rattle.std.specs.Prelude.{Bool, true, false, cond, ◌≡◌, refl, ℕ, suc, ◌<◌, ◌^◌, pos}
use Rattle.std.proofs.Common.{ap, arith, le-leb}
use Rattle.std.proofs.lemmas.Bool.{lt-leb}
use Rattle.values.specs.declared.Number.{Number}
use Rattle.memory.specs.Memory.{marked, mark}
use Rattle.memory.specs.Recall.{time_kept, kept_time}

-- a cell is marked exactly if a mark was put there
pub marked_mark : (b : Bool) → marked (mark b) ≡ b
marked_mark true = refl
marked_mark false = refl

-- what is kept of nothing is no time
pub kept_none : kept_time 0 ≡ Number.Undefined
kept_none = refl

-- "Times are milliseconds, 0 to 2^47−1": every such time is found again
pub kept_time_lem : (t : ℕ) → t < 2 ^ 47 → kept_time (suc t) ≡ Number.Whole (pos t)
kept_time_lem t f = ap (λ (k : Bool). cond k (Number.Whole (pos t)) Number.Undefined) (le-leb (suc t) (2 ^ 47) (omega arith))

-- what is out of range is no time
pub kept_outside : (c : ℕ) → 2 ^ 47 < c → kept_time c ≡ Number.Undefined
kept_outside c f = ap (λ (k : Bool). cond k (time_kept c) Number.Undefined) (lt-leb c (2 ^ 47) f)
