-- What reading the labels of a script answers, how many entries have one, and laws of both.
pub mod Among
pub mod Counting
pub mod Laws
pub mod Passed
