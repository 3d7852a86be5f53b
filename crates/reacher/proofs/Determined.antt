-- "The team proves that two replies allowed by the statement are equal": the least set is one set only, and so are the marks.
use Rattle.replies.specs.Replies.{Determined}
use Rattle.reach.proofs.Shown.{reply_same}
use Rattle.reacher.proofs.of_entry.Reads as of_entry

pub reaches : Determined of_entry.Post
reaches = record { same = λ κs a r₁ r₂ s₁ s₂ p q. reply_same a.0 a.1.0 r₁ r₂ p q }
