-- What each exported function answers, and what it leaves in the lent buffers.
pub mod Leaving
pub mod Alarms
pub mod Starting
pub mod Stepping
pub mod Labelling
pub mod Reaching
pub mod Marking
pub mod Writing
pub mod Running
pub mod Telling
