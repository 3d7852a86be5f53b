-- The writer: a table and a block of labels as stored, packed as a script.
use Rattle.std.specs.Prelude.{cond, List, [], ◌∷◌, ◌++◌, map, ℕ, zero, suc, leb, length, drop, Ok, Err}
use Rattle.values.specs.declared.Number.{Number}
use Rattle.refusals.specs.declared.Refusal.{Refusal}
use Rattle.refusals.specs.Answers.{Answer}
use Rattle.refusals.specs.Numbering.{unless, and_then}
use Rattle.bits.specs.Bits.{Part, bits_of_all, bytes_of}
use Rattle.bits.specs.Twos.{unsigned}
use Rattle.bits.specs.Reading.{answered, ◌>>=◌, ended}
use Rattle.table.specs.declared.Entry.{Entry}
use Rattle.table.specs.declared.Table.{Table}
use Rattle.table.specs.Limits.{limits}
use Rattle.table.specs.Kinds.{kind_of, operands_of}
use Rattle.table.specs.Tables.{is_event, entry_at, initial_of, labels_before}
use Rattle.table.specs.Faults.{table_fault}
use Rattle.script.specs.declared.Written.{Written}
use Rattle.script.specs.Operands.{width_of, field_of}
use Rattle.script.specs.Labels.{labels}

-- a field as wide as that, with that number
abbrev pub part : ℕ → ℕ → Part
part w v = record { wide = w; is = v }

-- the lists f 0, f 1, ..., f (n - 1), one after another
unfoldable pub joined : ℕ → (ℕ → List Part) → List Part
joined zero f = []
joined (suc n) f = joined n f ++ f n

-- "Format number ... Entry count n ... Import count q ... Variable count v ... Four zero bits."
unfoldable pub header_parts : Table → List Part
header_parts t = part 8 1 ∷ part 8 t.n ∷ part 6 t.q ∷ part 6 t.v ∷ part 4 0 ∷ []

-- "one [bit] for each import: 1 an event, 0 a condition"
unfoldable pub import_parts : Table → ℕ → List Part
import_parts t i = part 1 (cond (is_event t i) 1 0) ∷ []

-- "1 bit (1 = starts defined), then 48 bits ...; all zero where it starts undefined"
abbrev pub number_parts : Number → List Part
number_parts Number.Undefined = part 1 0 ∷ part 48 0 ∷ []
number_parts (Number.Whole z) = part 1 1 ∷ part 48 (unsigned z) ∷ []

-- "5 bits of kind, then operands"
unfoldable pub entry_parts : Entry → List Part
entry_parts e = part 5 (kind_of e) ∷ map (λ o. part (width_of o) (field_of o)) (operands_of e)

-- every field of the table, in order
unfoldable pub table_parts : Table → List Part
table_parts t =
    header_parts t
    ++ (joined t.q (import_parts t)
    ++ (joined t.v (λ x. number_parts (initial_of t x))
    ++ joined t.n (λ k. entry_parts (entry_at t k))))

-- the script of a table and its labels
unfoldable pub script_bytes : Table → List ℕ → List ℕ
script_bytes t block = bytes_of (bits_of_all (table_parts t)) ++ block

-- "the block (2, 10, 11)"
unfoldable pub block_fault : Table → List ℕ → Answer
block_fault t block = answered ((labels (labels_before t t.n) >>= λ count. ended Refusal.LeftOver) block 0)

-- "it checks 4, then variables (13 ...), entries in order (7, 8, 13), the block (2, 10, 11), then 1, then 12"
unfoldable pub writer_fault : Table → List ℕ → ℕ → Answer
writer_fault t block room =
    and_then (table_fault t)
    (and_then (block_fault t block)
    (and_then (unless (leb (length (script_bytes t block)) limits.script) Refusal.TooLong)
    (unless (leb (length (script_bytes t block)) room) Refusal.NoRoom)))

-- how many bytes are written
abbrev pub written_reply : Answer → ℕ → Written
written_reply (Ok _) size = record { answer = Ok tt; size = size }
written_reply (Err r) size = record { answer = Err r; size = 0 }

-- "An accepted write fills the first bytes; all later bytes of the destination stay"; a refused write changes no byte
abbrev pub written_bytes : Answer → List ℕ → List ℕ → List ℕ
written_bytes (Ok _) script destination = script ++ drop (length script) destination
written_bytes (Err r) script destination = destination

-- what the writer answers to a table and a block of labels, given a destination
unfoldable pub write_script : Table → List ℕ → List ℕ → Written
write_script t block destination = written_reply (writer_fault t block (length destination)) (length (script_bytes t block))

-- what the destination then holds
unfoldable pub write_bytes : Table → List ℕ → List ℕ → List ℕ
write_bytes t block destination = written_bytes (writer_fault t block (length destination)) (script_bytes t block) destination

-- names all that a script is written with: an example says `unfolding the_writer`
unfoldable pub the_writer : Unit {0}
unfolding joined header_parts import_parts entry_parts table_parts script_bytes block_fault writer_fault write_script write_bytes
the_writer = tt
