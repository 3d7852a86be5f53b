-- An entry judged on words, and that this is what its kind means.
pub mod Leaves
pub mod Rows
pub mod Truths
pub mod Whole
pub mod Said
pub mod Judging
