-- What the reader's answer says of a script: it is one, or it is refused.
use Rattle.std.specs.Prelude.{List, ◌≡◌, refl, ℕ, Ok, Err}
use Rattle.std.proofs.Common.{sym, ◌∙◌, ap}
use Rattle.refusals.specs.declared.Refusal.{Refusal}
use Rattle.refusals.specs.Accepting.{not_accepted}
use Rattle.bits.specs.Reading.{Got, got, refused}
use Rattle.table.specs.declared.Table.{Table}
use Rattle.script.specs.declared.Script.{Script}
use Rattle.script.specs.Reader.{script_of, script_reply, read_script}

-- a reading gives a table, whatever its end
pub record Gave (m : Got Table) (t : Table) : Type 0 where
  pub end : ℕ
  pub is : m ≡ got t end

-- where the answer is that it is accepted
reply_accepted : (m : Got Table) → (script_reply m).answer ≡ Ok tt → Gave m (script_reply m).table
reply_accepted (got t end) good = record { end = end; is = refl }
reply_accepted (refused r) good = not_accepted r good

-- where it is a refusal
reply_refused : (m : Got Table) (r : Refusal) → (script_reply m).answer ≡ Err r → m ≡ refused r
reply_refused (got t end) r bad = not_accepted r (sym bad)
reply_refused (refused f) r bad = ap refused (cc bad)

-- a script that the reader accepts is one, of that table
pub read_accepted : {read : Script} (s : List ℕ) → read ≡ read_script s → read.answer ≡ Ok tt → Gave (script_of s) read.table
unfolding read_script
read_accepted s is good = rw is (reply_accepted (script_of s) (ap (λ (x : Script). x.answer) (sym is) ∙ good))

-- a script that it refuses is refused with that
pub read_refused : {read : Script} {r : Refusal} (s : List ℕ) → read ≡ read_script s → read.answer ≡ Err r → script_of s ≡ refused r
unfolding read_script
read_refused {r = r} s is bad = reply_refused (script_of s) r (ap (λ (x : Script). x.answer) (sym is) ∙ bad)
