-- The demands as statements over any build, proved of ours, and the lazy builds that they stop.
pub mod Scripts
pub mod Lazy
pub mod Monitors
pub mod LazyMonitors
pub mod Reaches
pub mod LazyReaches
