-- Scripts there and back, both ways round.
-- "table and labels to script and back give the same table and labels"
pub mod WrittenTwos
pub mod WrittenSlots
pub mod WrittenSoFar
pub mod WrittenHeld
pub mod WrittenEntries
pub mod WrittenLabels
pub mod ReadNumbers
pub mod ReadStanding
pub mod ReadFaults
pub mod ReadBlock
