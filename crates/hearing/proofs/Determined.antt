-- "The team proves that two replies allowed by the statement are equal": where the words that are lent are those of a table, and all that is told is 0 at first.
use mathlib.Core.Path.{◌≡◌}
use lib.ListN.{replicate}
use Rattle.table.specs.declared.Table.{Table}
use Rattle.hearing.specs.Hearing.{event_words}
use Rattle.hearing.specs.Reply.{reply_of, heard_same, DeterminedWhere}
use Rattle.hearing.proofs.reading.hear.Reads as hear

pub hearing : (t : Table)
    → DeterminedWhere hear.Post
    (λ κs a. (t.q ≡ a.0) × ((a.1.1.0.now ≡ event_words t) × (a.1.1.1.1.0.now ≡ replicate 64 0)))
    (λ κs r s. reply_of r s.1.1.1.1.0.now)
hearing t = record { same = λ κs a r₁ r₂ s₁ s₂ g p q. heard_same (p t g.0 g.1.0 g.1.1) (q t g.0 g.1.0 g.1.1) }
