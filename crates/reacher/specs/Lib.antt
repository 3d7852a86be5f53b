-- How the reach of an entry is found: what entries name, the links between updates, and what is found, followed and touched.
pub mod Named
pub mod Leading
pub mod Adding
pub mod Linking
pub mod Along
pub mod Following
pub mod Touching
pub mod Replying
