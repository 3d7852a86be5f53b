-- "The logic over the history": results from the accepted steps alone, with nothing that a monitor keeps.
pub mod History
pub mod Offered
pub mod Pairs
pub mod Rows
pub mod Marked
