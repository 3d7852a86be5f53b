-- "Script to table to script gives the same bytes": a script that is read is written again as it was, and nothing in it is refused.
use Rattle.std.specs.Prelude.{Bool, true, false, cond, List, ◌++◌, ◌≡◌, refl, ℕ, ◌+◌, ◌*◌, ◌/◌, ◌≤◌, ltb, length, drop}
use Rattle.std.proofs.Common.{sym, ◌∙◌, ap, ap₂, arith, take-append-drop, ltb-false, le-leb, Ok}
use Rattle.refusals.specs.declared.Refusal.{Refusal}
use Rattle.bits.specs.Holding.{Bytes, width_of_all}
use Rattle.bits.specs.Fields.{there_ends}
use Rattle.bits.specs.Packing.{held_packed}
use Rattle.bits.specs.Reading.{Got, got, refused}
use Rattle.table.specs.declared.Table.{Table}
use Rattle.table.specs.Limits.{limits}
use Rattle.table.specs.Tables.{Shaped, labels_before}
use Rattle.table.specs.Faults.{table_fault}
use Rattle.table.specs.Sound.{sound_table}
use Rattle.script.specs.Labels.{labels}
use Rattle.script.specs.Reader.{packed_table, whole_script, script_of, block_of}
use Rattle.script.specs.Writer.{table_parts, script_bytes, block_fault, writer_fault}
use Rattle.bits.specs.Giving.{Gives, gives_value, gives_refused, gives_onward, gives_ended}
use Rattle.roundtrip.proofs.ReadTable.{TableRead, table_read}
use Rattle.roundtrip.specs.ReadBlock.{block_sound}

-- how many bytes a table takes
abbrev table_bytes : Table → ℕ
table_bytes t = (width_of_all (table_parts t) + 7) / 8

-- a script that was read: a table that was read, and labels up to the end of the bytes
record ScriptRead (s : List ℕ) (t : Table) : Type 0 where
  short : length s ≤ limits.script
  next : ℕ
  packed : packed_table s 0 ≡ got t next
  table : TableRead s t next
  count : ℕ
  rest : labels (labels_before t t.n) s next ≡ got count (8 * length s)

-- "Number 1 comes before all reading"
short_enough : {A : Type 0} (long : Bool) (r : Refusal) (m : Got A) {P : A → ℕ → Type 0} → (long ≡ false → Gives m P) → Gives (cond long (refused r) m) P
short_enough true r m h = gives_refused
short_enough false r m h = h refl

-- what is known of a script that is read
script_read : (s : List ℕ) → Gives (script_of s) (λ t end. ScriptRead s t)
unfolding script_of whole_script
script_read s =
    short_enough (ltb limits.script (length s)) Refusal.TooLong _
    (λ short.
    gives_onward
    (λ t next packed.
    gives_onward
    (λ count end rest.
    gives_ended s end Refusal.LeftOver _
    (λ all.
    gives_value
    (record {
      short = ltb-false limits.script (length s) short;
      next = next;
      packed = packed;
      table = (table_read s).told t next packed;
      count = count;
      rest = rest ∙ ap (got count) all;
    })))))

-- the block of labels is what follows the table
block_after_lem : (s : List ℕ) (t : Table) (end : ℕ) → script_of s ≡ got t end → (r : ScriptRead s t) → block_of s ≡ drop (table_bytes t) s
unfolding block_of
block_after_lem s t end e r =
    let byte : r.next / 8 ≡ table_bytes t = omega (arith, r.table.ends) in
    rw (e, r.packed) (ap (λ (m : ℕ). drop m s) byte)

-- the table of a script has its slots
pub read_shaped : (s : List ℕ) (t : Table) (end : ℕ) → script_of s ≡ got t end → Shaped t
read_shaped s t end e = ((script_read s).told t end e).table.shaped

-- and it is sound
pub read_sound : (s : List ℕ) (t : Table) (end : ℕ) → script_of s ≡ got t end → table_fault t ≡ Ok tt
read_sound s t end e = ((script_read s).told t end e).table.sound

-- so it has no more entries than there are slots
pub script_few : (s : List ℕ) (t : Table) (end : ℕ) → script_of s ≡ got t end → t.n ≤ limits.entries
script_few s t end e = (sound_table t (read_sound s t end e)).within.entries

-- "Script to table to script gives the same bytes"
pub script_again : (s : List ℕ) → Bytes s → (t : Table) (end : ℕ) → script_of s ≡ got t end → script_bytes t (block_of s) ≡ s
unfolding script_bytes
script_again s bytes t end e =
    let r = (script_read s).told t end e in
    let packed = held_packed s (table_parts t) bytes r.table.held r.table.padded in
    ap₂ ◌++◌ (sym packed) (block_after_lem s t end e r) ∙ take-append-drop (table_bytes t) s

-- a script that is read can be written, where there is room for it
pub writer_takes : (s : List ℕ) → Bytes s → (t : Table) (end : ℕ) → script_of s ≡ got t end → (room : ℕ) → length s ≤ room
    → writer_fault t (block_of s) room ≡ Ok tt
unfolding writer_fault
writer_takes s bytes t end e room enough =
    let r = (script_read s).told t end e in
    let within : table_bytes t ≤ length s = omega (arith, there_ends s _ _ _ r.table.padded) in
    let rest = ap (labels (labels_before t t.n) s) (sym r.table.ends) ∙ r.rest in
    let block = ap (block_fault t) (block_after_lem s t end e r) ∙ block_sound s (table_bytes t) within t r.count rest in
    rw (r.table.sound, block, script_again s bytes t end e, le-leb (length s) limits.script r.short, le-leb (length s) room enough)
