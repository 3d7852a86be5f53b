-- A monitor as words of 64 bits: the word of each value, where each stands, and back.
pub mod Words
pub mod Layout
pub mod Standing
pub mod Encoding
pub mod Rows
pub mod Packing
pub mod Filling
pub mod Fields
pub mod Unpacking
pub mod Again
pub mod Results
pub mod Restored
pub mod Checking
