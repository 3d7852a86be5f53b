-- What a part of a script comes with.
pub mod Shown
pub mod Within
