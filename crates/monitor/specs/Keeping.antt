-- What a monitor keeps, when that is at fault, and the start.
use Rattle.std.specs.Prelude.{ℕ, get_or, replicate, Ok, Err}
use Rattle.values.specs.declared.Truth.{Truth}
use Rattle.values.specs.declared.Number.{Number}
use Rattle.refusals.specs.declared.Refusal.{Refusal}
use Rattle.refusals.specs.Answers.{Answer}
use Rattle.refusals.specs.Numbering.{unless, and_then, first_fault}
use Rattle.table.specs.declared.Table.{Table}
use Rattle.table.specs.Limits.{limits}
use Rattle.table.specs.Tables.{empty_table, number_at}
use Rattle.table.specs.Faults.{table_fault, number_fault, as_unsound, unsound_table}
use Rattle.memory.specs.Recall.{kept_fits, kept_time}
use Rattle.monitor.specs.declared.Monitor.{Monitor}
use Rattle.monitor.specs.declared.Started.{Started}

-- the time of the last accepted step, undefined before any
abbrev pub last_time : Monitor → Number
last_time m = kept_time m.last

-- what entry k remembers
abbrev pub cell_at : Monitor → ℕ → ℕ
cell_at m k = get_or m.cells k 0

-- the number that a variable holds
abbrev pub held_in : Monitor → ℕ → Number
held_in m x = number_at m.held x

-- "a kept number or time out of range"
unfoldable pub kept_fault : Monitor → Answer
kept_fault m =
    and_then (unless (kept_fits m.last) Refusal.Unsound)
    (and_then (first_fault limits.variables (λ x. number_fault (held_in m x)))
    (first_fault limits.slots (λ k. unless (kept_fits (cell_at m k)) Refusal.Unsound)))

-- "29: monitor ... that the writer would refuse with 4, 7, 8 or 13, or a kept number or time out of range"
unfoldable pub unsound : Monitor → Answer
unsound m = as_unsound (and_then (table_fault m.table) (kept_fault m))

-- "a monitor that holds that table and no accepted step yet"
abbrev pub fresh : Table → Monitor
fresh t =
    record {
      table = t;
      last = 0;
      reported = replicate limits.imports Truth.Undefined;
      held = t.variables;
      cells = replicate limits.slots 0;
    }

-- "A start on a table at fault gives 29 and the monitor of the empty table"
abbrev pub start_reply : Answer → Table → Started
start_reply (Ok _) t = record { answer = Ok tt; monitor = fresh t }
start_reply (Err r) t = record { answer = Err r; monitor = fresh empty_table }

-- what a start answers: 29 or a monitor
unfoldable pub start_on : Table → Started
start_on t = start_reply (unsound_table t) t

-- names all that 29 and a start are computed with
unfoldable pub the_keeping : Unit {0}
unfolding kept_fault unsound start_on
the_keeping = tt
