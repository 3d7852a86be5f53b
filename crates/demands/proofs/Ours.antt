-- Every reply that our functions' own contracts allow is the build's, so the demands that are proved of the build hold of the code.
use Rattle.replies.specs.Replies.{Answers}
use Rattle.reach.specs.Spreading.{reach_of}
use Rattle.reach.proofs.Shown.{reply_is}
use Rattle.demands.specs.Scripts.{ours}
use Rattle.demands.specs.Monitors.{our_machine}
use Rattle.reader.proofs.read.Reads as read
use Rattle.parts.proofs.block.Reads as block
use Rattle.writer.proofs.write.Reads as write
use Rattle.monitor.proofs.start.Reads as start
use Rattle.monitor.proofs.step.Reads as step
use Rattle.reacher.proofs.of_entry.Reads as of_entry

-- what is read of any bytes
pub reads : Answers read.Post (λ κs r s. r) (λ κs a. ours.read a.0.now)
reads = record { is = λ κs a r s post. post }

-- their block of labels
pub blocks : Answers block.Post (λ κs r s. r.now) (λ κs a. ours.block a.0.now)
blocks = record { is = λ κs a r s post. post.0 }

-- what a write answers
pub writes : Answers write.Post (λ κs r s. r) (λ κs a. ours.write a.0 a.1.0.now a.1.1.0.now)
writes = record { is = λ κs a r s post. post.0 }

-- and what the destination then holds
pub written : Answers write.Post (λ κs r s. s.1.1.0.now) (λ κs a. ours.written a.0 a.1.0.now a.1.1.0.now)
written = record { is = λ κs a r s post. post.1 }

-- what a start answers
pub starts : Answers start.Post (λ κs r s. r) (λ κs a. our_machine.start a.0)
starts = record { is = λ κs a r s post. post }

-- what a step answers to any monitor and any bytes
pub steps : Answers step.Post (λ κs r s. r) (λ κs a. our_machine.step a.0 a.1.0.now)
steps = record { is = λ κs a r s post. post }

-- what a reach answers to any table and any number
pub reaches : Answers of_entry.Post (λ κs r s. r) (λ κs a. reach_of a.0 a.1.0)
reaches = record { is = λ κs a r s post. reply_is a.0 a.1.0 r post }
