-- What an entry looks at, from this step and from what was kept.
use Rattle.std.specs.Prelude.{Bool, cond, ℕ, zero, suc, ◌^◌, leb, ℤ, pos}
use Rattle.values.specs.declared.Truth.{Truth}
use Rattle.values.specs.declared.Number.{Number}
use Rattle.values.specs.declared.Outcome.{Outcome}
use Rattle.values.specs.Outcomes.{event_in}
use Rattle.step.specs.declared.Told.{Told}
use Rattle.meaning.specs.declared.Givens.{Givens}
use Rattle.memory.specs.Memory.{marked, open_now, latest_now}

-- "Times are milliseconds, 0 to 2^47−1": a kept time is one more than the time, and 0 where there is none
abbrev pub kept_fits : ℕ → Bool
kept_fits c = leb c (2 ^ 47)

-- one less than what is kept
abbrev pub time_kept : ℕ → Number
time_kept zero = Number.Undefined
time_kept (suc t) = Number.Whole (pos t)

-- the time that is kept; what is out of range is no time
abbrev pub kept_time : ℕ → Number
kept_time c = cond (kept_fits c) (time_kept c) Number.Undefined

-- what an entry looks at besides the results x and y at its operand entries: the cell is the entry's own, so that its mark means what the
-- entry's kind remembers
abbrev pub givens_from : Told → Truth → Number → ℤ → ℕ → ℕ → Outcome → Outcome → Givens
givens_from told reported held clock now cell x y =
    record {
      told = told;
      clock = clock;
      reported = reported;
      held = held;
      paired = open_now (marked cell) (event_in x) (event_in y);
      stood = marked cell;
      failed = marked cell;
      latest = kept_time (latest_now (event_in x) now cell);
    }
