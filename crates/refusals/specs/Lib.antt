-- What each refusal's number is, and which of several faults decides.
pub mod Answers
pub mod Numbering
pub mod Accepting
