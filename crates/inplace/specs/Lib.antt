-- A step taken in place.
pub mod Ranges
pub mod Numbers
pub mod Walking
pub mod Turning
pub mod Reporting
pub mod Saying
pub mod Taking
pub mod Staying
