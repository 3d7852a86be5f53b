-- "Reach": the least set of entries that a rule can depend on.
pub mod Reaching
pub mod Naming
pub mod Counting
pub mod Spreading
