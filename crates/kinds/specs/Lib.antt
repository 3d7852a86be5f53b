-- Entries as kinds and operands, and the laws of both.
pub mod Apart
pub mod Laws
