-- A turn in place: the words are those of the monitor that the records so far have left.
use Rattle.std.specs.Prelude.{Bool, List, ◌≡◌, refl, ℕ, ◌+◌, ◌-◌, ◌<◌, ◌≤◌, length, get_or, take, drop, Ok}
use Rattle.std.proofs.Common.{sym, ◌∙◌, ap, subst, arith}
use Rattle.refusals.specs.Answers.{Answer}
use Rattle.table.specs.declared.Table.{Table}
use Rattle.monitor.specs.declared.Monitor.{Monitor}
use Rattle.monitor.specs.Stepping.{step_of}
use Rattle.monitor.specs.Walking.{slots_enough}
use Rattle.words.specs.Layout.{state_of}
use Rattle.words.specs.Standing.{length_state, last_there}
use Rattle.words.specs.Unpacking.{monitor_in}
use Rattle.words.specs.Restored.{monitor_again}
use Rattle.inplace.specs.Taking.{Took, Taking, shown_at}
use Rattle.inplace.specs.Staying.{Standing, step_stands, step_table}
use Rattle.lines.specs.Laying.{Lays}
use Rattle.replaying.specs.declared.framing.Record.{Record}
use Rattle.replaying.specs.declared.Player.{Player}
use Rattle.replaying.specs.declared.Turn.{Turn}
use Rattle.replaying.specs.Moving.{Turned, text_kept, accepted_after, refused_after, move_room}
use Rattle.replaying.specs.Framing.{Framed}
use Rattle.replaying.specs.Rows.{printed, answer_lines, reply_printed}
use Rattle.replaying.specs.Turning.{Going, awaiting, going_none, going_more}

-- how far a turn in place has come
pub record Running (p : Player) (ended : Bool) (input : List ℕ) (from : ℕ) (out : List ℕ) (start : ℕ) (texts sizes : List ℕ) (n : ℕ) (state : List ℕ)
    (a f at : ℕ) (held : List ℕ) (filled : ℕ) : Type 0 where
  -- the monitor that the words stand for
  pub m : Monitor
  pub stands : Standing m
  pub words : state ≡ state_of m
  pub count : n ≡ m.table.n
  pub few : n ≤ 128
  pub going : Going p ended input from out start (awaiting texts sizes m a f) at held filled

-- no record is played yet
pub running_none : {p : Player} {ended : Bool} {input : List ℕ} {from : ℕ} {out : List ℕ} {start n : ℕ} {state : List ℕ} {texts sizes : List ℕ} {a f : ℕ} (m : Monitor)
    → Standing m → n ≡ m.table.n → state ≡ state_of m → p ≡ awaiting texts sizes m a f → from ≤ length input → start ≤ length out
    → Running p ended input from out start texts sizes n state a f from out start
running_none {p} {ended} {input} {from} {out} {start} m stands count words is within room =
    record {
      m = m;
      stands = stands;
      words = words;
      count = count;
      few = omega (arith, slots_enough m stands.sound);
      going = subst (λ (x : Player). Going p ended input from out start x from out start) is (going_none within room);
    }

module _ {p : Player} {ended : Bool} {input : List ℕ} {from : ℕ} {out : List ℕ} {start : ℕ} {texts sizes : List ℕ} {n : ℕ} {state : List ℕ} {a f at : ℕ} {held : List ℕ} {filled : ℕ}
    (run : Running p ended input from out start texts sizes n state a f at held filled) where
  -- one record more
  pub running_more : {size next a₁ f₁ : ℕ} {after results state₁ results₁ : List ℕ} {answer : Answer} → move_room ≤ length held - filled → Framed input at (Record.Whole size)
      → length results ≡ 128 → Took (take (at + 2 + size - (at + 2)) (drop (at + 2) input)) answer state results state₁ results₁
      → Lays held filled (answer_lines (text_kept texts sizes) answer (get_or state₁ 3 0 - 1) (λ k. printed (get_or results₁ k 0)) n) after next
      → a₁ ≡ accepted_after answer a → f₁ ≡ refused_after answer f
      → Running p ended input from out start texts sizes n state₁ a₁ f₁ (at + 2 + size) after next
  running_more {size} {next} {a₁} {f₁} {after} {results} {state₁} {results₁} {answer} enough framed long took lays counted also =
      let bytes = take (at + 2 + size - (at + 2)) (drop (at + 2) input) in
      let s = step_of run.m bytes in
      let taking : Taking run.m bytes answer results state₁ results₁ = took.taken run.m run.stands.shape run.stands.sound run.words long in
      let same : n ≡ s.monitor.table.n = run.count ∙ ap (λ (t : Table). t.n) (sym (step_table run.m run.stands bytes)) in
      let each : (k : ℕ) → s.answer ≡ Ok tt → k < s.monitor.table.n → get_or results₁ k 0 ≡ _ =
      λ k good below. ap (λ (l : List ℕ). get_or l k 0) taking.slots ∙ shown_at s run.m.table.n results k good (omega (arith, run.count)) (omega (arith, run.few, run.count)) in
      let last : get_or state₁ 3 0 - 1 ≡ s.monitor.last - 1 = ap (λ (l : List ℕ). get_or l 3 0 - 1) taking.words ∙ ap (λ (n : ℕ). n - 1) (last_there s.monitor) in
      let said = (λ i. answer_lines (text_kept texts sizes) (taking.answer i) (last i) (λ k. printed (get_or results₁ k 0)) (same i)) ∙ reply_printed (text_kept texts sizes) s results₁ each in
      record {
        m = s.monitor;
        stands = step_stands run.m run.stands bytes;
        words = taking.words;
        count = same;
        few = run.few;
        going = going_more run.going enough framed refl (subst (λ (text : List ℕ). Lays held filled text after next) said lays)
            (counted ∙ ap (λ (x : Answer). accepted_after x a) taking.answer) (also ∙ ap (λ (x : Answer). refused_after x f) taking.answer);
      }

  -- the monitor comes back from its words
  pub running_back : {m : Monitor} → m ≡ monitor_in state → m ≡ run.m
  running_back is = is ∙ ap monitor_in run.words ∙ monitor_again run.m run.stands.shape run.stands.sound

  -- and they are as many as a monitor takes
  pub running_long : length state ≡ 452
  running_long = ap length run.words ∙ length_state run.m

-- the same turn, of a player whose monitor is the same
pub turned_by : {texts sizes : List ℕ} {m₁ m₂ : Monitor} {a f : ℕ} {ended : Bool} {input : List ℕ} {from : ℕ} {out : List ℕ} {start : ℕ} {after : List ℕ} {t : Turn} → m₁ ≡ m₂
    → Turned (awaiting texts sizes m₁ a f) ended input from out start after t → Turned (awaiting texts sizes m₂ a f) ended input from out start after t
turned_by {texts} {sizes} {a = a} {f} {ended} {input} {from} {out} {start} {after} {t} same turned =
    subst (λ (m : Monitor). Turned (awaiting texts sizes m a f) ended input from out start after t) same turned
