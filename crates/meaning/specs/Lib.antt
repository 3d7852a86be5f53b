-- What each of the twenty-five kinds means at one step.
pub mod Places
pub mod Inside
pub mod Meaning
pub mod Ranged
