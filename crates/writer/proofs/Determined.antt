-- "The team proves that two replies allowed by the statement are equal": the writer's own contract gives its reply and what the destination holds then.
use Rattle.replies.specs.Replies.{DeterminedWith, by_both}
use Rattle.writer.proofs.write.Reads as write

pub writing : DeterminedWith write.Post (λ κs s. s.1.1.0.now)
writing = by_both
