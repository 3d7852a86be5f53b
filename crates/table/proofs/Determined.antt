-- "The team proves that two replies allowed by the statement are equal": the public function's own contract gives its reply.
use mathlib.Core.Path.{refl}
use Rattle.replies.specs.Replies.{Determined, by_value}
use Rattle.table.proofs.U8FromSort.from.Reads as sorts
use Rattle.table.proofs.Table.empty.Reads as empty
use Rattle.table.proofs.Table.shaped.Reads as shaped

pub tables : Determined empty.Post
tables = by_value

-- there is nothing to reply
pub shapes : Determined shaped.Post
shapes = record { same = λ κs a r₁ r₂ s₁ s₂ p q. refl }

pub numbers : Determined sorts.Post
numbers = by_value
