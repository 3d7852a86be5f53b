-- What one pass over a script answers: its table, where its block of labels stands, and the label of one entry.
use Rattle.std.specs.Prelude.{Bool, cond, List, ℕ, ◌-◌, ◌/◌, length, Ok, Err, Result}
use Rattle.refusals.specs.declared.Refusal.{Refusal}
use Rattle.bits.specs.Reading.{Got, got, refused}
use Rattle.table.specs.declared.Table.{Table}
use Rattle.table.specs.Tables.{empty_table}
use Rattle.script.specs.declared.Span.{Span}
use Rattle.script.specs.declared.Label.{Label}
use Rattle.script.specs.Reader.{packed_table, script_of, read_script, no_label, label_of}
use Rattle.labels.specs.Among.{nowhere}
use Rattle.reader.specs.declared.Scan.{Scan}

-- what follows the table
abbrev pub span_after : List ℕ → Got Table → Span
span_after s (got t at) = record { from = at / 8; size = length s - at / 8 }
span_after s (refused r) = nowhere

-- where the block of labels stands, in a script that is accepted
abbrev pub span_in : List ℕ → Got Table → Span
span_in s (got t end) = span_after s (packed_table s 0)
span_in s (refused r) = nowhere

-- where the block of labels of any bytes stands; refused, it is empty
unfoldable pub block_span : List ℕ → Span
block_span s = span_in s (script_of s)

-- all of it
unfoldable pub scan_of : List ℕ → ℕ → Scan
scan_of s k = record { answer = (read_script s).answer; table = (read_script s).table; block = block_span s; label = label_of s k }

-- a script that is refused
abbrev pub refused_scan : Refusal → Scan
refused_scan r = record { answer = Err r; table = empty_table; block = nowhere; label = no_label r }

-- the label that was found, or "30: no such entry, or, for a label, not an alarm or property"
abbrev pub shown : Bool → Span → Label
shown among span = cond among (record { answer = Ok tt; span = span }) (no_label Refusal.NoEntry)

-- one pass, from what was read: a script that is accepted, or the refusal
abbrev pub told : Result Scan Refusal → Scan
told (Ok scan) = scan
told (Err r) = refused_scan r
