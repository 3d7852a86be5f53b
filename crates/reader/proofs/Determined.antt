-- "The team proves that two replies allowed by the statement are equal": each public function's own contract gives its reply.
use Rattle.replies.specs.Replies.{Determined, by_value}
use Rattle.reader.proofs.scanning.scan_script.Reads as scan-script
use Rattle.reader.proofs.scanning.read.Reads as read
use Rattle.reader.proofs.scanning.find_label.Reads as find-label

pub reading : Determined scan-script.Post × (Determined read.Post × Determined find-label.Post)
reading = (by_value, (by_value, by_value))
