-- What a table is, what its kinds are, and when it is at fault.
pub mod Limits
pub mod Below
pub mod Kinds
pub mod Tables
pub mod Faults
pub mod Sound
pub mod Texts
