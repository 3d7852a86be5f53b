-- Theorems on the reach: the set that is worked out in rounds is the least, and what a reply shows.
pub mod Spread
pub mod Shown
