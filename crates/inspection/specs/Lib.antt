-- What `inspect` shows of a script.
pub mod Inspected
pub mod Marks
pub mod Rules
pub mod Scripts
pub mod Bounds
pub mod Examples
