-- The monitor knows the whole history: what it keeps is what the history leaves, step after step.
pub mod Recalling
pub mod Fitting
pub mod Carrying
pub mod Cells
pub mod Telling
pub mod Variables
pub mod Imports
pub mod Arriving
