-- "One recorded stream, whole": what the program prints for any input.
pub mod Records
pub mod Cutting
pub mod Lines
pub mod Replay
pub mod Recording
