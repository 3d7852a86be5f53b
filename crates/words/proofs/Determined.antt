-- "The team proves that two replies allowed by the statement are equal": each public function's own contract gives its reply.
use Rattle.replies.specs.Replies.{Determined, by_value, DeterminedWith, by_final}
use Rattle.words.proofs.encoding.number_word.Reads as number_word
use Rattle.words.proofs.encoding.truth_word.Reads as truth_word_lem
use Rattle.words.proofs.encoding.outcome_word.Reads as outcome-word
use Rattle.words.proofs.packing.pack.Reads as pack
use Rattle.words.proofs.unpacking.monitor_in.Reads as monitor-in
use Rattle.words.proofs.checking.state_fault.Reads as state-fault

pub encoding : Determined number_word.Post × Determined truth_word_lem.Post × Determined outcome-word.Post
encoding = (by_value, by_value, by_value)

-- the buffer that a monitor is put into
pub packing : DeterminedWith pack.Post (λ κs s. s.1.0.now)
packing = by_final

pub unpacking : Determined monitor-in.Post × Determined state-fault.Post
unpacking = (by_value, by_value)
