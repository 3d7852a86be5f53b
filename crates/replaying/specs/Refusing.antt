-- A turn of a monitor that 29 stops: each record is refused, and the monitor stays as it is.
use Rattle.std.specs.Prelude.{Bool, List, ◌≡◌, refl, ℕ, ◌+◌, ◌-◌, ◌≤◌, length, Ok, Err}
use Rattle.std.proofs.Common.{sym, ◌∙◌}
use Rattle.refusals.specs.declared.Refusal.{Refusal}
use Rattle.refusals.specs.Answers.{Answer}
use Rattle.refusals.specs.Numbering.{and_then}
use Rattle.refusals.specs.Accepting.{not_accepted}
use Rattle.table.specs.Faults.{table_fault, as_unsound}
use Rattle.monitor.specs.declared.Monitor.{Monitor}
use Rattle.monitor.specs.Keeping.{kept_fault, unsound}
use Rattle.monitor.specs.Stepping.{refused_step}
use Rattle.monitor.specs.Replying.{step_unsound}
use Rattle.lines.specs.Laying.{Lays}
use Rattle.stream.specs.Lines.{refused_line}
use Rattle.replaying.specs.declared.Player.{Player}
use Rattle.replaying.specs.declared.framing.Record.{Record}
use Rattle.replaying.specs.Moving.{reply_lines, once_more, move_room}
use Rattle.replaying.specs.Framing.{Framed}
use Rattle.replaying.specs.Turning.{Going, awaiting, going_more}

-- any fault is 29
as_29 : (a : Answer) (r : Refusal) → as_unsound a ≡ Err r → as_unsound a ≡ Err Refusal.Unsound
as_29 (Ok _) r bad = not_accepted r (sym bad)
as_29 (Err s) r bad = refl

-- a monitor that is found at fault is stopped by 29
pub stopped_by_29 : (m : Monitor) {found : Answer} {r : Refusal} → found ≡ unsound m → found ≡ Err r → unsound m ≡ Err Refusal.Unsound
unfolding unsound
stopped_by_29 m {r = r} judged bad = as_29 (and_then (table_fault m.table) (kept_fault m)) r (sym judged ∙ bad)

-- one record more: it is refused with 29, and counted
pub going_refused : {p : Player} {ended : Bool} {input : List ℕ} {from : ℕ} {out : List ℕ} {start : ℕ} {texts sizes : List ℕ} {m : Monitor} {a f at : ℕ} {held : List ℕ} {filled : ℕ}
    {size next f₁ : ℕ} {after : List ℕ} → Going p ended input from out start (awaiting texts sizes m a f) at held filled → unsound m ≡ Err Refusal.Unsound
    → move_room ≤ length held - filled → Framed input at (Record.Whole size) → Lays held filled (refused_line Refusal.Unsound) after next → f₁ ≡ once_more f
    → Going p ended input from out start (awaiting texts sizes m a f₁) (at + 2 + size) after next
unfolding reply_lines
going_refused {m = m} going stopped enough framed lays counted =
    going_more going enough framed (step_unsound m (unsound m) refl _ (refused_step Refusal.Unsound m) Refusal.Unsound stopped refl) lays refl counted
