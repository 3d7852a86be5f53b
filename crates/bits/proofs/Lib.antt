-- What is proved of the crate's contracts besides that its functions meet them, and what several proofs share.
pub mod Complement
pub mod Determined
pub mod Shifts
pub mod Room
