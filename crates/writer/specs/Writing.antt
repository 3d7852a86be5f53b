-- A script written: how long it is, in which order its faults come, and what the destination holds then.
use Rattle.std.specs.Prelude.{List, ◌++◌, ◌≡◌, refl, ℕ, ◌+◌, ◌*◌, ◌/◌, ◌≤◌, leb, ltb, length, drop, Ok, Err}
use Rattle.std.proofs.Common.{sym, ◌∙◌, ap, arith, leb-true, length-append, take_at, drop-drop}
use Rattle.std.proofs.Math.Seq.{paste, take-length, drop-append-add}
use Rattle.refusals.specs.declared.Refusal.{Refusal}
use Rattle.refusals.specs.Answers.{Answer}
use Rattle.refusals.specs.Numbering.{unless, and_then}
use Rattle.bits.specs.Bits.{bits_of_all, bytes_of}
use Rattle.bits.specs.Holding.{Bytes, width_of_all}
use Rattle.bits.specs.Packing.{padded, width_padded, length_packed}
use Rattle.bits.specs.Putall.{put_packed}
use Rattle.bits.specs.Reading.{Got, got, refused, answered}
use Rattle.table.specs.declared.Table.{Table}
use Rattle.table.specs.Limits.{limits}
use Rattle.table.specs.Tables.{labels_before}
use Rattle.table.specs.Faults.{table_fault}
use Rattle.script.specs.declared.Span.{Span}
use Rattle.script.specs.Writer.{table_parts, script_bytes, block_fault, writer_fault, write_script, write_bytes}
use Rattle.labels.specs.Among.{among_reply, labels_to_end, label_after, label_among}
use Rattle.refusals.specs.Accepting.{accepted_first, accepted_second, unless_accepted}
use Rattle.table.specs.Sound.{Within, sound_table}
use Rattle.writer.specs.Widths.{entries_wide, table_width, table_narrow}
use Rattle.writer.specs.Puts.{Puts}

-- how many bytes the packed table takes
abbrev pub packed_size : Table → ℕ
packed_size t = (width_of_all (table_parts t) + 7) / 8

-- a table within its limits takes far fewer than a script may have
pub packed_small : (t : Table) → Within t → packed_size t ≤ limits.script
packed_small t within =
    omega (arith, table_width t, entries_wide t t.n, within.entries, within.imports, within.variables)

-- a script is the packed table and the block
pub script_length : (t : Table) (block : List ℕ) → length (script_bytes t block) ≡ packed_size t + length block
unfolding script_bytes
script_length t block =
    length-append (bytes_of (bits_of_all (table_parts t))) block ∙ ap (λ (n : ℕ). n + length block) (length_packed (table_parts t))

-- "then 1, then 12", of a script of that many bytes
abbrev pub room_fault : ℕ → ℕ → Answer
room_fault size room = and_then (unless (leb size limits.script) Refusal.TooLong) (unless (leb size room) Refusal.NoRoom)

-- the answer of all the labels does not depend on the wanted one
among_answer : (count wanted : ℕ) (one : Got Span) (all : Got ℕ) → (among_reply (ltb wanted count) one all).answer ≡ answered all
among_answer count wanted one (got c end) = refl
among_answer count wanted one (refused r) = refl

-- what reading the block as labels answers
pub block_answer : (t : Table) (block : List ℕ) (wanted : ℕ) → (label_among (labels_before t t.n) wanted block 0).answer ≡ block_fault t block
unfolding label_among block_fault labels_to_end
block_answer t block wanted =
    among_answer (labels_before t t.n) wanted (label_after wanted block 0) (labels_to_end (labels_before t t.n) block 0)

-- the writer's faults in order, with the size of the script written out
pub writer_fault_lem : (t : Table) (block : List ℕ) (room : ℕ)
    → writer_fault t block room ≡ and_then (table_fault t) (and_then (block_fault t block) (room_fault (packed_size t + length block) room))
unfolding writer_fault
writer_fault_lem t block room =
    ap (λ (n : ℕ). and_then (table_fault t) (and_then (block_fault t block) (room_fault n room))) (script_length t block)

-- an answer that is the table's, and accepts: the table is within its limits
pub within_told : {a : Answer} (t : Table) → a ≡ table_fault t → a ≡ Ok tt → Within t
within_told t is accepted = (sound_table t (sym is ∙ accepted)).within

-- what is known of a script that is written
pub record Writable (t : Table) (block : List ℕ) (room : ℕ) : Type 0 where
  pub within : Within t
  pub short : packed_size t + length block ≤ limits.script
  pub fits : packed_size t + length block ≤ room

-- where no fault is found
pub writable : (t : Table) (block : List ℕ) (room : ℕ) → writer_fault t block room ≡ Ok tt → Writable t block room
writable t block room good =
    let size = packed_size t + length block in
    let long = unless (leb size limits.script) Refusal.TooLong in
    let none = unless (leb size room) Refusal.NoRoom in
    let all = sym (writer_fault_lem t block room) ∙ good in
    let rest = accepted_second (table_fault t) (and_then (block_fault t block) (room_fault size room)) all in
    let last = accepted_second (block_fault t block) (room_fault size room) rest in
    record {
      within = (sound_table t (accepted_first (table_fault t) (and_then (block_fault t block) (room_fault size room)) all)).within;
      short = leb-true size limits.script (unless_accepted (leb size limits.script) Refusal.TooLong (accepted_first long none last));
      fits = leb-true size room (unless_accepted (leb size room) Refusal.NoRoom (accepted_second long none last));
    }

-- the packed table's size, from where its padding ends
pub packed_ends : {s s' : List ℕ} (t : Table) (packed : ℕ) → Puts s 0 (padded (table_parts t)) s' (8 * packed) → packed ≡ packed_size t
packed_ends t packed put = omega (arith, put.ends, width_padded (table_parts t))

-- "fills the first bytes; all later bytes of the destination stay"
abbrev pub filled_with : List ℕ → List ℕ → List ℕ
filled_with script destination = script ++ drop (length script) destination

-- the packed table at the front, the block behind it, and after them the bytes as they were
pub filled : (t : Table) (block destination packed : List ℕ) (size : ℕ) → Bytes destination → packed_size t + length block ≤ length destination
    → Puts destination 0 (padded (table_parts t)) packed (8 * size) → paste packed size block (length block) ≡ filled_with (script_bytes t block) destination
unfolding script_bytes
filled t block destination packed size bytes room put =
    rw (
      put.bytes,
      put_packed destination (table_parts t) bytes (table_narrow t) (omega arith),
      packed_ends t size put,
      take_at table rest (packed_size t) (length_packed (table_parts t)),
      take-length block,
      script_length t block,
    )
    (ap (λ (l : List ℕ). table ++ block ++ l) after)
  where
    table : List ℕ
    table = bytes_of (bits_of_all (table_parts t))

    rest : List ℕ
    rest = drop (packed_size t) destination

    after : drop (packed_size t + length block) (table ++ rest) ≡ drop (packed_size t + length block) destination
    after =
        ap (λ (n : ℕ). drop (n + length block) (table ++ rest)) (sym (length_packed (table_parts t)))
        ∙ drop-append-add table rest (length block)
        ∙ drop-drop (length block) (packed_size t) destination

-- an answer that is the writer's, and accepts: what is known of the script
pub writable_told : {a : Answer} (t : Table) (block : List ℕ) (room : ℕ) → a ≡ writer_fault t block room → a ≡ Ok tt → Writable t block room
writable_told t block room is accepted = writable t block room (sym is ∙ accepted)

-- the reply
pub written_reply_lem : {a : Answer} {size : ℕ} (t : Table) (block destination : List ℕ) → a ≡ writer_fault t block (length destination)
    → a ≡ Ok tt → size ≡ length (script_bytes t block)
    → record { answer = Ok tt; size = size } ≡ write_script t block destination
unfolding write_script
written_reply_lem t block destination is accepted long = rw (sym is ∙ accepted, long)

-- and the destination
pub written_bytes_lem : {a : Answer} {final : List ℕ} (t : Table) (block destination : List ℕ) → a ≡ writer_fault t block (length destination)
    → a ≡ Ok tt → final ≡ filled_with (script_bytes t block) destination → final ≡ write_bytes t block destination
unfolding write_bytes
written_bytes_lem t block destination is accepted fills = rw (sym is ∙ accepted) fills

-- an answer that refuses: the reply
pub refused_reply : {a : Answer} {r : Refusal} (t : Table) (block destination : List ℕ) → a ≡ writer_fault t block (length destination)
    → a ≡ Err r → record { answer = Err r; size = 0 } ≡ write_script t block destination
unfolding write_script
refused_reply t block destination is bad = rw (sym is ∙ bad)

-- and the destination, which stays as it was
pub refused_bytes : {a : Answer} {r : Refusal} (t : Table) (block destination : List ℕ) → a ≡ writer_fault t block (length destination)
    → a ≡ Err r → destination ≡ write_bytes t block destination
unfolding write_bytes
refused_bytes t block destination is bad = rw (sym is ∙ bad)
