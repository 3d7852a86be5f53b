-- What is proved of the crate's contracts besides that its functions meet them.
pub mod Determined
