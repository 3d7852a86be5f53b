-- The script, bit by bit: how it is read and written, and where its labels stand.
pub mod Operands
pub mod Labels
pub mod Reader
pub mod Writer
pub mod Orders
