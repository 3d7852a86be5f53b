-- A table's fields put one after another, and a script written.
pub mod Parts
pub mod Widths
pub mod Puts
pub mod Writing
