-- "The team proves that two replies allowed by the statement are equal": the public function's own contract gives its reply.
use mathlib.Core.Path.{sym, ◌∙◌}
use Rattle.replies.specs.Replies.{Determined}
use Rattle.judging.proofs.judge.Reads as judge

-- the two parts of the reply are given, and they are all of it
pub judging : Determined judge.Post
judging =
    record {
      same = λ κs a r₁ r₂ s₁ s₂ p q i. record { outcome = (p.0 ∙ sym q.0) i; cell = (p.1 ∙ sym q.1) i };
    }
