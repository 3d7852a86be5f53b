-- "The team proves that two replies allowed by the statement are equal": where the words are those of a sound monitor and there are 128 slots for the results.
use mathlib.Core.List.{List}
use mathlib.Core.Path.{◌≡◌}
use Prim.Native.Nat.{ℕ}
use lib.ListN.{length}
use Rattle.refusals.specs.Answers.{Answer}
use Rattle.monitor.specs.declared.Monitor.{Monitor}
use Rattle.words.specs.Layout.{state_of}
use Rattle.hearing.specs.Reply.{DeterminedWhere}
use Rattle.inplace.specs.Staying.{Standing}
use Rattle.inplace.specs.Taking.{taking_same}
use Rattle.inplace.proofs.taking.take.Reads as take

pub taking : (m : Monitor) → Standing m
    → DeterminedWhere {F = Answer × (List ℕ × List ℕ)} take.Post
    (λ κs a. (a.0.now ≡ state_of m) × (length a.1.1.0.now ≡ 128))
    (λ κs r s. (r, (s.0.now, s.1.1.0.now)))
taking m stands =
    record {
      same = λ κs a r₁ r₂ s₁ s₂ g p q.
          taking_same (p.taken m stands.shape stands.sound g.0 g.1) (q.taken m stands.shape stands.sound g.0 g.1);
    }
