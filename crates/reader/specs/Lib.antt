-- How far reading a script came, and what one pass over it answers.
pub mod Stages
pub mod Scans
pub mod ScanLaws
pub mod Heads
pub mod Rules
pub mod Packs
