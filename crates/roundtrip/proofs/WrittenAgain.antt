-- "table and labels to script and back give the same table and labels"
use Rattle.std.specs.Prelude.{List, ◌++◌, ◌≡◌, refl, ℕ, ◌+◌, ◌*◌, ◌/◌, ◌≤◌, length}
use Rattle.std.proofs.Common.{sym, ap, ◌∙◌, arith, leb-true, le-ltb, Ok}
use Rattle.std.proofs.Math.Seq.{drop-append_seam}
use Rattle.refusals.specs.declared.Refusal.{Refusal}
use Rattle.bits.specs.Bits.{bits_of_all, bytes_of}
use Rattle.bits.specs.Reading.{Got, got, refused, answered, onward, onward_onward, ◌>>=◌, ended}
use Rattle.table.specs.declared.Table.{Table}
use Rattle.table.specs.Limits.{limits}
use Rattle.table.specs.Tables.{Shaped, labels_before}
use Rattle.table.specs.Faults.{table_fault}
use Rattle.script.specs.Labels.{labels}
use Rattle.script.specs.Reader.{whole_script, script_of, script_reply, read_script, block_of}
use Rattle.script.specs.Writer.{table_parts, script_bytes, block_fault, writer_fault}
use Rattle.refusals.specs.Accepting.{not_accepted, unless_accepted, accepted_first, accepted_second}
use Rattle.table.specs.Sound.{sound_table}
use Rattle.roundtrip.proofs.WrittenTable.{packed_again}
use Rattle.roundtrip.specs.WrittenLabels.{moved, same, block_moved}

-- a reading that went through, so many bits further on
went_through : (g : Got ℕ) (far : ℕ) (t : Table) → answered g ≡ Ok tt
    → (end : ℕ) × (onward (moved same far g) (λ a next. got t next) ≡ got t end)
went_through (got a next) far t good = (far + next, refl)
went_through (refused r) far t bad = not_accepted r bad

-- what the writer accepts
record Writable (t : Table) (block : List ℕ) : Type 0 where
  table : table_fault t ≡ Ok tt
  labels : block_fault t block ≡ Ok tt
  short : length (script_bytes t block) ≤ limits.script

writable : (t : Table) (block : List ℕ) (room : ℕ) → writer_fault t block room ≡ Ok tt → Writable t block
unfolding writer_fault
writable t block room good =
    let rest = accepted_second (table_fault t) _ good in
    let size = accepted_first _ _ (accepted_second (block_fault t block) _ rest) in
    record {
      table = accepted_first (table_fault t) _ good;
      labels = accepted_first (block_fault t block) _ rest;
      short = leb-true (length (script_bytes t block)) limits.script (unless_accepted _ Refusal.TooLong size);
    }

-- a written script is read through
script_again : (t : Table) → Shaped t → (block : List ℕ) → Writable t block → (end : ℕ) × (script_of (script_bytes t block) ≡ got t end)
unfolding script_of whole_script script_bytes block_fault
script_again t shape block good =
    let front = bytes_of (bits_of_all (table_parts t)) in
    let count = labels_before t t.n in
    let through = went_through ((labels count >>= λ n. ended Refusal.LeftOver) block 0) (8 * length front) t good.labels in (
      through.0,
      rw (le-ltb limits.script (length (front ++ block)) good.short, packed_again t shape (sound_table t good.table) block)
          (sym (onward_onward (labels count (front ++ block) (8 * length front)) (λ n next. ended Refusal.LeftOver (front ++ block) next) (λ n next. got t next))
          ∙ ap (λ (end : Got ℕ). onward end (λ n next. got t next)) (block_moved front block count)
          ∙ through.1),
    )

-- the same table
pub table_again : (t : Table) → Shaped t → (block : List ℕ) (room : ℕ) → writer_fault t block room ≡ Ok tt
    → read_script (script_bytes t block) ≡ record { answer = Ok tt; table = t }
unfolding read_script
table_again t shape block room good = ap script_reply (script_again t shape block (writable t block room good)).1

-- the same labels
pub labels_again : (t : Table) → Shaped t → (block : List ℕ) (room : ℕ) → writer_fault t block room ≡ Ok tt
    → block_of (script_bytes t block) ≡ block
unfolding block_of script_bytes
labels_again t shape block room good =
    let front = bytes_of (bits_of_all (table_parts t)) in
    let through = writable t block room good in
    let whole : 8 * length front / 8 ≡ length front = omega arith in
    rw ((script_again t shape block through).1, packed_again t shape (sound_table t through.table) block, whole) (drop-append_seam front block)
