-- What is shown of a script that was read, and of one that was refused.
use mathlib.Core.List.{List, ◌++◌}
use Rattle.std.specs.Prelude.{◌≡◌, refl, ℕ, ◌≤◌, Ok, Err}
use Rattle.std.proofs.Math.Path.{sym, subst}
use Rattle.std.proofs.Common.{◌∙◌, ap, arith}
use Rattle.refusals.specs.declared.Refusal.{Refusal}
use Rattle.refusals.specs.Accepting.{not_accepted}
use Rattle.bits.specs.Reading.{Got, got, refused}
use Rattle.table.specs.declared.Table.{Table}
use Rattle.table.specs.Limits.{limits}
use Rattle.script.specs.declared.Script.{Script}
use Rattle.script.specs.Reader.{script_of, script_reply, read_script}
use Rattle.roundtrip.proofs.ReadAgain.{script_few}
use Rattle.lines.specs.Text.{script_line, script_refused_line}
use Rattle.lines.specs.Laying.{Lays, lays_then}
use Rattle.inspection.specs.Inspected.{rules_to, lines_of, inspected}

-- what is shown where the reader answers that the script is accepted
accepted_lines : (s : List ℕ) (m : Got Table) → (script_reply m).answer ≡ Ok tt
    → lines_of s m ≡ script_line (script_reply m).table.n ++ rules_to s (script_reply m).table (script_reply m).table.n
accepted_lines s (got t end) good = refl
accepted_lines s (refused r) good = not_accepted r good

-- and where it answers that it is refused
refused_lines : (s : List ℕ) (m : Got Table) (r : Refusal) → (script_reply m).answer ≡ Err r → lines_of s m ≡ script_refused_line r
refused_lines s (got t end) r bad = not_accepted r (sym bad)
refused_lines s (refused f) r bad = ap script_refused_line (cc bad)

-- a script that is read has no more entries than there are slots, nor has the empty table
reply_few : (m : Got Table) → ((t : Table) (end : ℕ) → m ≡ got t end → t.n ≤ limits.entries) → (script_reply m).table.n ≤ limits.entries
reply_few (got t end) few = few t end refl
reply_few (refused r) few = omega arith

-- so the reader's table never has more
pub read_few : {read : Script} (s : List ℕ) → read ≡ read_script s → read.table.n ≤ limits.entries
unfolding read_script
read_few s is = subst (λ (x : Script). x.table.n ≤ limits.entries) (sym is) (reply_few (script_of s) (script_few s))

module _ {dst mid after : List ℕ} {at next : ℕ} {read : Script} (s : List ℕ) where
  -- an accepted script's lines: the first one, and those of the rules
  pub lays_accepted : read ≡ read_script s → read.answer ≡ Ok tt → Lays dst 0 (script_line read.table.n) mid at
      → Lays mid at (rules_to s read.table read.table.n) after next → Lays dst 0 (inspected s) after next
  unfolding read_script inspected
  lays_accepted is good first rules =
      subst (λ (text : List ℕ). Lays dst 0 text after next)
      (ap (λ (x : Script). script_line x.table.n ++ rules_to s x.table x.table.n) is
      ∙ sym (accepted_lines s (script_of s) (ap (λ (x : Script). x.answer) (sym is) ∙ good)))
      (lays_then first rules)

-- a refused script's line
pub lays_refused : {dst after : List ℕ} {next : ℕ} {read : Script} {r : Refusal} (s : List ℕ) → read ≡ read_script s → read.answer ≡ Err r
    → Lays dst 0 (script_refused_line r) after next → Lays dst 0 (inspected s) after next
unfolding read_script inspected
lays_refused {dst} {after} {next} {r = r} s is bad laid =
    subst (λ (text : List ℕ). Lays dst 0 text after next) (sym (refused_lines s (script_of s) r (ap (λ (x : Script). x.answer) (sym is) ∙ bad))) laid
