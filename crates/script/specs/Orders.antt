-- The order of refusals in reading and writing, and the recorded script there and back.
use Rattle.std.specs.Prelude.{true, false, List, [], ◌∷◌, ◌≡◌, refl, ℕ, leb, ltb, eqb, length, Ok, Err, Some}
use Rattle.refusals.specs.declared.Refusal.{Refusal}
use Rattle.bits.specs.Bits.{field_at, the_bits}
use Rattle.bits.specs.Twos.{the_twos}
use Rattle.bits.specs.Reading.{got, refused, stops}
use Rattle.table.specs.declared.Table.{Table}
use Rattle.table.specs.declared.Entry.TheVariants.{ImportedCondition, Not, Start, Alarm}
use Rattle.table.specs.Limits.{limits}
use Rattle.table.specs.Faults.{table_fault, the_faults}
use Rattle.script.specs.Reader.{counted, with_entry, whole_script, script_of, block_of, header, packed_table, the_reader}
use Rattle.script.specs.Writer.{script_bytes, block_fault, writer_fault, the_writer}

-- "Number 1 comes before all reading"
pub length_first : (s : List ℕ) → ltb limits.script (length s) ≡ true → script_of s ≡ refused Refusal.TooLong
unfolding script_of
length_first s long = rw long

-- a refusal by the header is one of the whole script
header_first : (s : List ℕ) (r : Refusal) → header s 0 ≡ refused r → whole_script s 0 ≡ refused r
unfolding whole_script packed_table
header_first s r e = rw e

-- the format number is judged before anything after it is taken
pub format_first : (s : List ℕ) (f : ℕ) → field_at s 0 8 ≡ Some f → eqb f 1 ≡ false → whole_script s 0 ≡ refused Refusal.Format
unfolding header
format_first s f there other = header_first s Refusal.Format (rw there (stops (eqb f 1) Refusal.Format f 8 _ other))

-- the writer looks at the table before the block, and at the block before the room
pub table_first : (t : Table) (block : List ℕ) (room : ℕ) (r : Refusal) → table_fault t ≡ Err r → writer_fault t block room ≡ Err r
unfolding writer_fault
table_first t block room r bad = rw bad

-- the block comes next
pub block_next : (t : Table) (block : List ℕ) (room : ℕ) (r : Refusal) → table_fault t ≡ Ok tt → block_fault t block ≡ Err r
    → writer_fault t block room ≡ Err r
unfolding writer_fault
block_next t block room r good bad = rw (good, bad)

-- "then 1, then 12"
pub length_before_room : (t : Table) (block : List ℕ) (room : ℕ) → table_fault t ≡ Ok tt → block_fault t block ≡ Ok tt
    → leb (length (script_bytes t block)) limits.script ≡ false → writer_fault t block room ≡ Err Refusal.TooLong
unfolding writer_fault
length_before_room t block room good fine long = rw (good, fine, long)

-- "Script: 01 04 04 00 00 01 80 50 1B 82 04 4C 45 41 50"
abbrev pub recorded_script : List ℕ
recorded_script = 0x01 ∷ 0x04 ∷ 0x04 ∷ 0x00 ∷ 0x00 ∷ 0x01 ∷ 0x80 ∷ 0x50 ∷ 0x1B ∷ 0x82 ∷ 0x04 ∷ 0x4C ∷ 0x45 ∷ 0x41 ∷ 0x50 ∷ []

-- "It imports condition 0, negates it, takes the start, raises alarm LEAP."
abbrev pub recorded_table : Table
recorded_table = with_entry (with_entry (with_entry (with_entry (counted 4 1 0) 0 (ImportedCondition 0)) 1 (Not 0)) 2 (Start 1)) 3 (Alarm 2)

-- its label, as stored
abbrev pub recorded_block : List ℕ
recorded_block = 4 ∷ 0x4C ∷ 0x45 ∷ 0x41 ∷ 0x50 ∷ []

-- the recorded script is read as that table and those labels
pub recorded_read : (script_of recorded_script ≡ got recorded_table 120) × (block_of recorded_script ≡ recorded_block)
unfolding the_bits the_twos the_faults the_reader
recorded_read = (refl, refl)

-- and written as the same bytes
pub recorded_written : (script_bytes recorded_table recorded_block ≡ recorded_script) × (writer_fault recorded_table recorded_block 15 ≡ Ok tt)
unfolding the_bits the_twos the_faults the_reader the_writer
recorded_written = (refl, refl)
