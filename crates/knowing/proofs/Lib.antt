-- Theorems: the monitor that is left knows the whole history.
pub mod Walking
pub mod Knowing
pub mod Ranges
pub mod Staying
pub mod Answering
