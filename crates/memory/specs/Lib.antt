-- What one entry keeps in its cell, and what it looks at.
pub mod Memory
pub mod Recall
pub mod Laws
