-- What the proofs of several functions share, and what is proved of their contracts besides.
pub mod Whole
pub mod Determined
