-- "two replies allowed by the statement are equal"
pub mod Replies
pub mod Plain
