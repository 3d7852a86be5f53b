-- "The team proves that two replies allowed by the statement are equal": a part's text, where it stands, and the number that comes with it.
use Rattle.replies.specs.Replies.{Determined, by_value, DeterminedPart, by_place}
use Rattle.parts.proofs.outcome.Reads as outcome
use Rattle.parts.proofs.label.Reads as label
use Rattle.parts.proofs.block.Reads as block

pub numbers : Determined outcome.Post
numbers = by_value

pub labels : DeterminedPart label.Post (λ κs r. r.now) (λ κs r. r.ref_ptr.0) (λ κs r. r.ref_ptr.1) (λ κs s. s.1.1.0.now)
labels = by_place

pub blocks : DeterminedPart block.Post (λ κs r. r.now) (λ κs r. r.ref_ptr.0) (λ κs r. r.ref_ptr.1) (λ κs s. s.1.0.now)
blocks = by_place
