-- Lines of text: numbers, words and fields, and how they are laid into a destination.
pub mod Text
pub mod Laying
pub mod Decimals
pub mod Spaced
pub mod Lengths
pub mod Whole
