-- "A step, bit by bit": how it is read, what is taken from it, and laws of both.
pub mod Steps
pub mod Reader
pub mod Taking
pub mod Hearing
pub mod Telling
pub mod Stages
pub mod Padding
pub mod SoFar
pub mod Laws
