-- Fields of 1 to 48 bits in a string of bytes, and reading one field after another.
pub mod Bits
pub mod Digits
pub mod Octets
pub mod Fields
pub mod Twos
pub mod Putting
pub mod Holding
pub mod Lists
pub mod Filled
pub mod Packing
pub mod Putall
pub mod Reading
pub mod Giving
pub mod Packed
pub mod Window
