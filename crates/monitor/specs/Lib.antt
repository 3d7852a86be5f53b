-- The monitor: what it keeps, when it is at fault, and what a start and a step answer.
pub mod Keeping
pub mod Laws
pub mod Unsound
pub mod Stepping
pub mod Walking
pub mod Replying
