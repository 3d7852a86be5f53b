-- "The script, bit by bit", read from front to back.
use Rattle.std.specs.Prelude.{Bool, cond, ◌&&◌, ◌||◌, List, [], ◌∷◌, ℕ, zero, suc, ◌/◌, leb, ltb, eqb, length, get_or, set, take, drop, Ok, Err}
use Rattle.values.specs.declared.Number.{Number}
use Rattle.refusals.specs.declared.Refusal.{Refusal}
use Rattle.refusals.specs.Numbering.{unless}
use Rattle.bits.specs.Twos.{signed}
use Rattle.bits.specs.Reading.{Got, got, refused, Reading, give, ◌>>=◌, field, whatever, padding, ended}
use Rattle.table.specs.declared.Entry.{Entry}
use Rattle.table.specs.declared.Table.{Table}
use Rattle.table.specs.Limits.{limits}
use Rattle.table.specs.Kinds.{Operand, C, E, N, condition_import, event_import, variable, labelled}
use Rattle.table.specs.Tables.{empty_table, entry_at, labels_before}
use Rattle.table.specs.Faults.{operand_fault}
use Rattle.script.specs.declared.Script.{Script}
use Rattle.script.specs.declared.Span.{Span}
use Rattle.script.specs.declared.Label.{Label}
use Rattle.script.specs.Operands.{width_of, constant_field}
use Rattle.script.specs.Labels.{printable, text, label, labels}

-- the empty table with its counts set
abbrev pub counted : ℕ → ℕ → ℕ → Table
counted n q v = record { n = n; q = q; v = v; events = empty_table.events; variables = empty_table.variables; entries = empty_table.entries }

-- a table with one import's sort set
abbrev pub with_event : Table → ℕ → Bool → Table
with_event t i e = record { n = t.n; q = t.q; v = t.v; events = set t.events i e; variables = t.variables; entries = t.entries }

-- a table with one initial value set
abbrev pub with_variable : Table → ℕ → Number → Table
with_variable t x y = record { n = t.n; q = t.q; v = t.v; events = t.events; variables = set t.variables x y; entries = t.entries }

-- a table with one entry set
abbrev pub with_entry : Table → ℕ → Entry → Table
with_entry t k e = record { n = t.n; q = t.q; v = t.v; events = t.events; variables = t.variables; entries = set t.entries k e }

-- "Format number, 8 bits, 1. Entry count n, 8 bits, 1 to 128. Import count q, 6 bits, 0 to 48. Variable count v, 6 bits, 0 to 32. Four zero bits."
unfoldable pub header : Reading Table
header = do
  format ← field Refusal.Cut 8 (λ f. unless (eqb f 1) Refusal.Format)
  n ← field Refusal.Cut 8 (λ n. unless (leb 1 n && leb n limits.entries) Refusal.EntryCount)
  q ← field Refusal.Cut 6 (λ q. unless (leb q limits.imports) Refusal.ImportCount)
  v ← field Refusal.Cut 6 (λ v. unless (leb v limits.variables) Refusal.VariableCount)
  zeros ← field Refusal.Cut 4 (λ z. unless (eqb z 0) Refusal.HeaderBits)
  give (counted n q v)

-- "q bits, one for each import: 1 an event, 0 a condition."
unfoldable pub imports : ℕ → ℕ → Table → Reading Table
imports zero i t = give t
imports (suc left) i t = field Refusal.Cut 1 whatever >>= λ bit. imports left (suc i) (with_event t i (eqb bit 1))

-- a variable's start: the number, or undefined
abbrev pub starting : ℕ → ℕ → Number
starting bit v = cond (eqb bit 1) (Number.Whole (signed v)) Number.Undefined

-- "For each variable: 1 bit (1 = starts defined), then 48 bits, two's complement; all zero where it starts undefined."
unfoldable pub variables : ℕ → ℕ → Table → Reading Table
variables zero x t = give t
variables (suc left) x t = do
  bit ← field Refusal.Cut 1 whatever
  number ← field Refusal.Cut 48 (λ v. unless (eqb bit 1 || eqb v 0) Refusal.Initial)
  variables left (suc x) (with_variable t x (starting bit number))

-- an operand of entry k: 2, then 7, then 8; 48 bits always hold a number in range
unfoldable pub operand : Table → ℕ → (ℕ → Operand) → Reading ℕ
operand t k o = field Refusal.Cut (width_of (o 0)) (λ v. operand_fault t k (o v))

-- an entry with no operand
abbrev pub bare : Entry → Reading Entry
bare e = give e

-- an entry with one operand
abbrev pub one : Table → ℕ → (ℕ → Operand) → (ℕ → Entry) → Reading Entry
one t k o make = operand t k o >>= λ a. give (make a)

-- with two
abbrev pub two : Table → ℕ → (ℕ → Operand) → (ℕ → Operand) → (ℕ → ℕ → Entry) → Reading Entry
two t k o p make = operand t k o >>= λ a. one t k p (make a)

-- with three
abbrev pub three : Table → ℕ → (ℕ → Operand) → (ℕ → Operand) → (ℕ → Operand) → (ℕ → ℕ → ℕ → Entry) → Reading Entry
three t k o p r make = operand t k o >>= λ a. two t k p r (make a)

-- the twenty-five kinds, 0 to 24, with their operands
unfoldable pub kinds : Table → ℕ → List (Reading Entry)
kinds t k =
    one t k condition_import Entry.ImportedCondition
    ∷ one t k C Entry.Defined
    ∷ two t k E E Entry.Pair
    ∷ one t k C Entry.Not
    ∷ two t k C C Entry.Or
    ∷ two t k C C Entry.And
    ∷ two t k C C Entry.Implies
    ∷ two t k N N Entry.Less
    ∷ two t k N N Entry.Equal
    ∷ one t k event_import Entry.ImportedEvent
    ∷ one t k C Entry.Start
    ∷ one t k C Entry.End
    ∷ two t k E E Entry.Both
    ∷ two t k E E Entry.Either
    ∷ two t k E C Entry.When
    ∷ one t k constant_field (λ v. Entry.Constant (signed v))
    ∷ one t k variable Entry.Variable
    ∷ two t k N N Entry.Sum
    ∷ two t k N N Entry.Difference
    ∷ bare Entry.Clock
    ∷ one t k event_import Entry.Value
    ∷ one t k E Entry.Time
    ∷ three t k E variable N Entry.Update
    ∷ one t k E Entry.Alarm
    ∷ one t k C Entry.Property
    ∷ []

-- "5 bits of kind, then operands"; "6: kind 25 to 31"
unfoldable pub entry : Table → ℕ → Reading Entry
entry t k = field Refusal.Cut 5 (λ kind. unless (ltb kind 25) Refusal.Kind) >>= λ kind. get_or (kinds t k) kind (bare Entry.Clock)

-- "n entries", each put in its slot
unfoldable pub entries : ℕ → ℕ → Table → Reading Table
entries zero k t = give t
entries (suc left) k t = entry t k >>= λ e. entries left (suc k) (with_entry t k e)

-- the table of a script: all that comes before the labels
unfoldable pub packed_table : Reading Table
packed_table = do
  counts ← header
  sorted ← imports counts.q 0 counts
  started ← variables counts.v 0 sorted
  t ← entries counts.n 0 started
  zeros ← padding Refusal.Cut Refusal.Padding
  give t

-- "For each alarm and property entry, in order: [a label]. Nothing follows."
unfoldable pub whole_script : Reading Table
whole_script = do
  t ← packed_table
  count ← labels (labels_before t t.n)
  end ← ended Refusal.LeftOver
  give t

-- "Number 1 comes before all reading": "script over 4,096 bytes"
unfoldable pub script_of : List ℕ → Got Table
script_of s = cond (ltb limits.script (length s)) (refused Refusal.TooLong) (whole_script s 0)

-- "A refused script returns the empty table"
abbrev pub script_reply : Got Table → Script
script_reply (got t end) = record { answer = Ok tt; table = t }
script_reply (refused r) = record { answer = Err r; table = empty_table }

-- what the reader answers to a string of bytes
unfoldable pub read_script : List ℕ → Script
read_script s = script_reply (script_of s)

-- "refused ..., the part is empty"
abbrev pub no_label : Refusal → Label
no_label r = record { answer = Err r; span = record { from = 0; size = 0 } }

-- where the label of entry k stands, in a script that is accepted
unfoldable pub label_span : ℕ → Reading Span
label_span k = do
  t ← packed_table
  count ← labels (labels_before t k)
  label

-- where it was found, or the refusal
abbrev pub label_reply : Got Span → Label
label_reply (got span next) = record { answer = Ok tt; span = span }
label_reply (refused r) = no_label r

-- "30: no such entry, or, for a label, not an alarm or property"
abbrev pub label_in : List ℕ → ℕ → Got Table → Label
label_in s k (got t end) = cond (ltb k t.n && labelled (entry_at t k)) (label_reply (label_span k s 0)) (no_label Refusal.NoEntry)
label_in s k (refused r) = no_label r

-- "A label is shown as the part of the script where its text stands; refused (script numbers, then 30), the part is empty."
unfoldable pub label_of : List ℕ → ℕ → Label
label_of s k = label_in s k (script_of s)

-- the text of a label, which is a part of the script
abbrev pub text_of : List ℕ → Label → List ℕ
text_of script l = take l.span.size (drop l.span.from script)

-- the labels of a script as they are stored: what follows the table
abbrev pub block_after : List ℕ → Got Table → List ℕ
block_after s (got t at) = drop (at / 8) s
block_after s (refused r) = []

-- the block of labels of a script, empty where the script is refused
abbrev pub block_in : List ℕ → Got Table → List ℕ
block_in s (got t end) = block_after s (packed_table s 0)
block_in s (refused r) = []

-- the block of labels of any bytes
unfoldable pub block_of : List ℕ → List ℕ
block_of s = block_in s (script_of s)

-- names all that a script is read with: an example says `unfolding the_reader`
unfoldable pub the_reader : Unit {0}
unfolding printable text label labels header imports variables operand kinds entry entries packed_table whole_script script_of read_script label_span label_of block_of
the_reader = tt
