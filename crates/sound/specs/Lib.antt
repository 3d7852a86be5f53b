-- Operands judged by what is lent of a table, and the laws of that.
pub mod Judged
pub mod Laws
pub mod Slots
pub mod Firsts
