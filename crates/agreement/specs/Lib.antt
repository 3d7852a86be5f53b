-- Two histories that agree on what a rule reaches give it the same results.
pub mod Agreeing
pub mod Looking
pub mod Touched
