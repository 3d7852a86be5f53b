-- "The team proves that two replies allowed by the statement are equal": each public function's own contract gives its reply.
use Rattle.replies.specs.Replies.{Determined, by_value, DeterminedWith, by_final}
use Rattle.bits.proofs.taking.field_at.Reads as field_at
use Rattle.bits.proofs.taking.byte_at.Reads as byte_at
use Rattle.bits.proofs.twos.signed.Reads as signed
use Rattle.bits.proofs.twos.unsigned.Reads as unsigned
use Rattle.bits.proofs.putting.put.Reads as put

pub fields : Determined field_at.Post × Determined byte_at.Post
fields = (by_value, by_value)

pub numbers : Determined signed.Post × Determined unsigned.Post
numbers = (by_value, by_value)

-- the bytes that a field is put into
pub putting : DeterminedWith put.Post (λ κs s. s.0.now)
putting = by_final
