-- The theorem: two histories that agree on what a rule reaches give it the same results.
pub mod Same
