-- How the program keeps what it has read and not yet played, and that what it does is a run.
pub mod Refilling
pub mod Running
pub mod Playing
