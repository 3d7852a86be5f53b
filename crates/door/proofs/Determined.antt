-- "The team proves that two replies allowed by the statement are equal": each exported function's own contract gives its reply and what every
-- lent buffer holds at its end; that of nimbra_step_held does so on the words of a sound monitor.
use Rattle.std.proofs.Common.{Ok}
use mathlib.Core.List.{List}
use mathlib.Core.Path.{◌≡◌}
use Prim.Native.Nat.{ℕ}
use Rattle.replies.specs.Replies.{Determined, by_value, DeterminedWith}
use Rattle.words.specs.Unpacking.{state_fault}
use Rattle.door.specs.Leaving.{leaves_one}
use Rattle.door.specs.Stepping.{stepped_one}
use Rattle.door.specs.Writing.{written_one}
use Rattle.door.proofs.alarms.nimbra_next_alarm.Reads as next-alarm
use Rattle.door.proofs.starting.nimbra_start.Reads as start
use Rattle.door.proofs.stepping.nimbra_step.Reads as step
use Rattle.door.proofs.stepping.nimbra_step_held.Reads as step-held
use Rattle.door.proofs.labelling.nimbra_label.Reads as label
use Rattle.door.proofs.labelling.nimbra_labels.Reads as labels
use Rattle.door.proofs.reaching.nimbra_reach.Reads as reach
use Rattle.door.proofs.writing.nimbra_write.Reads as write

pub alarms : Determined next-alarm.Post
alarms = by_value

pub starting : DeterminedWith start.Post (λ κs s. s.1.0.now)
starting = record { same = λ κs a r₁ r₂ s₁ s₂ p q. leaves_one p q }

pub labelling : DeterminedWith label.Post (λ κs s. s.1.1.0.now)
labelling = record { same = λ κs a r₁ r₂ s₁ s₂ p q. leaves_one p q }

pub labels_block : DeterminedWith labels.Post (λ κs s. s.1.0.now)
labels_block = record { same = λ κs a r₁ r₂ s₁ s₂ p q. leaves_one p q }

pub reaching : DeterminedWith reach.Post (λ κs s. s.1.1.0.now)
reaching = record { same = λ κs a r₁ r₂ s₁ s₂ p q. leaves_one p q }

-- the words and the results
pub stepping : DeterminedWith {F = List ℕ × List ℕ} step.Post (λ κs s. (s.0.now, s.1.1.0.now))
stepping = record { same = λ κs a r₁ r₂ s₁ s₂ p q. let one = stepped_one p q in (one.0, λ i. (one.1.0 i, one.1.1 i)) }

-- the same, on the words of a sound monitor
pub stepping_held : DeterminedWith {F = List ℕ × List ℕ} (λ κs a r s. (state_fault a.0.now ≡ Ok tt) × step-held.Post κs a r s) (λ κs s. (s.0.now, s.1.1.0.now))
stepping_held =
    record { same = λ κs a r₁ r₂ s₁ s₂ p q. let one = stepped_one (p.1.sound p.0) (q.1.sound q.0) in (one.0, λ i. (one.1.0 i, one.1.1 i)) }

-- the destination and the word for its size
pub writing : DeterminedWith {F = List ℕ × List ℕ} write.Post (λ κs s. (s.1.1.0.now, s.1.1.1.0.now))
writing = record { same = λ κs a r₁ r₂ s₁ s₂ p q. let one = written_one p q in (one.0, λ i. (one.1.0 i, one.1.1 i)) }
