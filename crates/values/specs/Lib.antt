-- What the values of document 01 are, and what its operators on them give.
pub mod Truths
pub mod Numbers
pub mod Outcomes
pub mod Adding
pub mod Texts
