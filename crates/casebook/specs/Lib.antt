-- What a case of the test programs is.
pub mod Cases
