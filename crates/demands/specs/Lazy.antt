-- Lazy builds that meet part of a demand, and the statement that stops each.
use Rattle.std.specs.Prelude.{[], ◌≡◌, refl, ℕ, Err}
use Rattle.std.proofs.Common.{◌∙◌, ap, arith}
use Rattle.refusals.specs.declared.Refusal.{Refusal}
use Rattle.bits.specs.Bits.{the_bits}
use Rattle.bits.specs.Twos.{the_twos}
use Rattle.table.specs.Tables.{Shaped, empty_table}
use Rattle.table.specs.Faults.{the_faults}
use Rattle.script.specs.declared.Script.{Script}
use Rattle.script.specs.declared.Written.{Written}
use Rattle.script.specs.Reader.{read_script, the_reader}
use Rattle.script.specs.Writer.{write_script, the_writer}
use Rattle.script.specs.Orders.{recorded_table, recorded_block, recorded_script}
use Rattle.demands.specs.Scripts.{Build, read_as, filled, ScriptsReturn, TablesReturn, ReadsAsDefined, ours}

-- "A reader that refuses everything"
abbrev pub refuses_all : Build
refuses_all =
    record {
      read = λ s. record { answer = Err Refusal.Format; table = empty_table };
      block = λ s. [];
      write = ours.write;
      written = ours.written;
    }

-- it meets "script to table to script", since there is nothing to show
pub refuses_all_scripts : ScriptsReturn refuses_all
refuses_all_scripts = record { same = λ s bytes t read destination room. let answer = ap (λ (x : Script). x.answer) read in let z : ◌≡◌ {A = ℕ} 0 1 = cc in absurd (omega arith) }

-- the recorded table and its label are written
recorded_filled : write_script recorded_table recorded_block recorded_script ≡ filled 15
unfolding the_bits the_twos the_faults the_reader the_writer
recorded_filled = refl

-- "is stopped by demand 2's round trip of written tables"
pub refuses_all_stopped : TablesReturn refuses_all → ⊥
refuses_all_stopped demand =
    let shaped : Shaped recorded_table = record { entries = refl; events = refl; variables = refl } in
    let read = (demand.same recorded_table shaped recorded_block recorded_script 15 recorded_filled).0 in
    let answer = ap (λ (x : Script). x.answer) read in
    let z : ◌≡◌ {A = ℕ} 0 1 = cc in
    omega arith

-- a reader and a writer that both refuse everything meet both round trips, since there is nothing to show
abbrev pub refuses_both : Build
refuses_both =
    record {
      read = refuses_all.read;
      block = refuses_all.block;
      write = λ t block destination. record { answer = Err Refusal.NoRoom; size = 0 };
      written = λ t block destination. destination;
    }

pub refuses_both_returns : ScriptsReturn refuses_both × TablesReturn refuses_both
refuses_both_returns = (
  record { same = λ s bytes t read destination room. let answer = ap (λ (x : Script). x.answer) read in let z : ◌≡◌ {A = ℕ} 0 1 = cc in absurd (omega arith) },
  record { same = λ t shaped block destination size wrote. let answer = ap (λ (x : Written). x.answer) wrote in let z : ◌≡◌ {A = ℕ} 0 1 = cc in absurd (omega arith) },
)

-- that the reader's refusals are the definition's stops them
recorded_accepted : read_script recorded_script ≡ read_as recorded_table
unfolding the_bits the_twos the_faults the_reader
recorded_accepted = refl

pub refuses_both_stopped : ReadsAsDefined refuses_both → ⊥
refuses_both_stopped demand =
    let answer = ap (λ (x : Script). x.answer) (demand.same recorded_script ∙ recorded_accepted) in
    let z : ◌≡◌ {A = ℕ} 0 1 = cc in
    omega arith
