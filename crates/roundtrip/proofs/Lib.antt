-- Theorems: what is written is read again, and what is read is written again.
pub mod WrittenFitting
pub mod WrittenTable
pub mod WrittenAgain
pub mod ReadStarting
pub mod ReadEntries
pub mod ReadSoFar
pub mod ReadTable
pub mod ReadAgain
