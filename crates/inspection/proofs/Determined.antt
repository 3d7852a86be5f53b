-- "The team proves that two replies allowed by the statement are equal": the contract fixes how many bytes are filled and what the destination holds then.
use Rattle.replies.specs.Replies.{DeterminedWith}
use Rattle.lines.specs.Laying.{lays_same}
use Rattle.inspection.proofs.lines.Reads as lines

pub showing : DeterminedWith lines.Post (λ κs s. s.1.0.now)
showing = record { same = λ κs a r₁ r₂ s₁ s₂ p q. lays_same p.0 q.0 }
