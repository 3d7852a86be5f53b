-- A step heard into words: what it tells of each import, as words of 64 bits.
pub mod Hearing
pub mod Lent
pub mod Nexts
pub mod Gathering
pub mod Whole
pub mod Reply
