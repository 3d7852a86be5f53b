-- One entry, read by what is lent of the table so far, and that it is the entry of the script's reader.
pub mod Entering
pub mod Takings
pub mod Steps
pub mod Laws
