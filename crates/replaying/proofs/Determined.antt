-- "The team proves that two replies allowed by the statement are equal": each public function's own contract gives its reply, and what the output holds then.
use Rattle.replies.specs.Replies.{Determined, by_value, DeterminedWith}
use Rattle.replaying.specs.Pieces.{turned_same}
use Rattle.replaying.proofs.turning.new_player.Reads as new-player
use Rattle.replaying.proofs.turning.play.Reads as play

pub beginning : Determined new-player.Post
beginning = by_value

pub playing : DeterminedWith play.Post (λ κs s. s.1.1.1.0.now)
playing = record { same = λ κs a r₁ r₂ s₁ s₂ p q. turned_same p q }
