-- Demand 2 for scripts, stated over any reader and writer: "Script to table to script gives the same bytes; table and labels to script and back give the same table and labels."
use Rattle.std.specs.Prelude.{List, ◌++◌, ◌≡◌, refl, ℕ, ◌≤◌, length, take, drop, Ok, Err}
use Rattle.std.proofs.Common.{sym, ◌∙◌, ap, arith}
use Rattle.std.proofs.Math.Seq.{take-append_seam}
use Rattle.refusals.specs.declared.Refusal.{Refusal}
use Rattle.refusals.specs.Answers.{Answer}
use Rattle.bits.specs.Holding.{Bytes}
use Rattle.bits.specs.Reading.{Got, got, refused}
use Rattle.table.specs.declared.Table.{Table}
use Rattle.table.specs.Tables.{Shaped, empty_table}
use Rattle.script.specs.declared.Script.{Script}
use Rattle.script.specs.declared.Written.{Written}
use Rattle.script.specs.Reader.{script_of, script_reply, read_script, block_of}
use Rattle.script.specs.Writer.{script_bytes, writer_fault, written_reply, written_bytes, write_script, write_bytes}
use Rattle.roundtrip.proofs.WrittenAgain.{table_again, labels_again}
use Rattle.roundtrip.proofs.ReadAgain.{script_again, writer_takes}

-- a reader and a writer: what is read of any bytes, their block of labels, what a write answers, and what the destination then holds
pub record Build : Type 0 where
  pub read : List ℕ → Script
  pub block : List ℕ → List ℕ
  pub write : Table → List ℕ → List ℕ → Written
  pub written : Table → List ℕ → List ℕ → List ℕ

-- the reply of a script that is read as a table
abbrev pub read_as : Table → Script
read_as t = record { answer = Ok tt; table = t }

-- a write that fills so many bytes
abbrev pub filled : ℕ → Written
filled size = record { answer = Ok tt; size = size }

-- "Script to table to script gives the same bytes": written with room for it, and all later bytes stay
pub record ScriptsReturn (build : Build) : Type 0 where
  pub same : (s : List ℕ) → Bytes s → (t : Table) → build.read s ≡ read_as t → (destination : List ℕ) → length s ≤ length destination
      → (build.write t (build.block s) destination ≡ filled (length s))
      × (build.written t (build.block s) destination ≡ s ++ drop (length s) destination)

-- "table and labels to script and back give the same table and labels"
pub record TablesReturn (build : Build) : Type 0 where
  pub same : (t : Table) → Shaped t → (block destination : List ℕ) (size : ℕ) → build.write t block destination ≡ filled size
      → (build.read (take size (build.written t block destination)) ≡ read_as t)
      × (build.block (take size (build.written t block destination)) ≡ block)

-- "first fault from front to back": what is read of any bytes is what the definition reads, refusals too
pub record ReadsAsDefined (build : Build) : Type 0 where
  pub same : (s : List ℕ) → build.read s ≡ read_script s

-- the document's reader and writer; proofs/Ours.antt shows that our functions' contracts say just this
abbrev pub ours : Build
ours = record { read = read_script; block = block_of; write = write_script; written = write_bytes }

-- a reply that names a table comes from a script that was read
reply_got : (m : Got Table) (t : Table) → script_reply m ≡ read_as t → (end : ℕ) × (m ≡ got t end)
reply_got (got u end) t e = (end, ap (λ (x : Script). got x.table end) e)
reply_got (refused r) t e = let answer = ap (λ (x : Script). x.answer) e in let z : ◌≡◌ {A = ℕ} 0 1 = cc in absurd (omega arith)

-- a write that filled bytes was accepted, and filled the script
reply_accepted : (a : Answer) (script destination : List ℕ) (size : ℕ) → written_reply a (length script) ≡ filled size
    → (a ≡ Ok tt) × (take size (written_bytes a script destination) ≡ script)
reply_accepted (Ok _) script destination size e =
    let all : size ≡ length script = sym (ap (λ (x : Written). x.size) e) in
    (refl, ap (λ (n : ℕ). take n (script ++ drop (length script) destination)) all ∙ take-append_seam script (drop (length script) destination))
reply_accepted (Err r) script destination size e = let answer = ap (λ (x : Written). x.answer) e in let z : ◌≡◌ {A = ℕ} 0 1 = cc in absurd (omega arith)

-- (b) a table and a block that the writer accepts, read again, are the same table and labels
pub our_tables_return : TablesReturn ours
unfolding write_script write_bytes
our_tables_return =
    record {
      same = λ t shaped block destination size wrote.
          let done = reply_accepted (writer_fault t block (length destination)) (script_bytes t block) destination size wrote in
          (ap ours.read done.1 ∙ table_again t shaped block (length destination) done.0, ap ours.block done.1 ∙ labels_again t shaped block (length destination) done.0);
    }

-- (a) a script that the reader accepts, written again from its table and its labels, gives the same bytes
pub our_scripts_return : ScriptsReturn ours
unfolding read_script write_script write_bytes
our_scripts_return =
    record {
      same = λ s bytes t read destination room.
          let whole = reply_got (script_of s) t read in
          let again = script_again s bytes t whole.0 whole.1 in
          let taken = writer_takes s bytes t whole.0 whole.1 (length destination) room in
          (rw (taken, again) refl, rw (taken, again) refl);
    }

-- "so no two scripts mean one table and labels"
pub one_script : (s u : List ℕ) → Bytes s → Bytes u → (t : Table) → read_script s ≡ read_as t → read_script u ≡ read_as t → block_of s ≡ block_of u → s ≡ u
unfolding read_script
one_script s u s-bytes u-bytes t first second labels =
    let a = reply_got (script_of s) t first in
    let b = reply_got (script_of u) t second in
    sym (script_again s s-bytes t a.0 a.1) ∙ ap (script_bytes t) labels ∙ script_again u u-bytes t b.0 b.1

-- (c) what is read of any bytes is what the definition reads
pub ours_as_defined : ReadsAsDefined ours
ours_as_defined = record { same = λ s. refl }

-- its refusals are those of the definition, with the empty table
pub refused_as_defined : (s : List ℕ) (r : Refusal) → (read_script s).answer ≡ Err r → (script_of s ≡ refused r) × ((read_script s).table ≡ empty_table)
unfolding read_script
refused_as_defined s r e = by (script_of s) e
  where
    by : (m : Got Table) → (script_reply m).answer ≡ Err r → (m ≡ refused r) × ((script_reply m).table ≡ empty_table)
    by (got t end) h = let z : ◌≡◌ {A = ℕ} 0 1 = cc in absurd (omega arith)
    by (refused q) h = (cc, refl)

-- and every refusal of the definition is given
pub refused_where_defined : (s : List ℕ) (r : Refusal) → script_of s ≡ refused r → read_script s ≡ record { answer = Err r; table = empty_table }
unfolding read_script
refused_where_defined s r e = ap script_reply e
