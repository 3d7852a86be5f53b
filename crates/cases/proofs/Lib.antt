-- Where the readings that mislead differ.
pub mod Differing
