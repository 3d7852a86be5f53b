-- Test only: the gate rule of document 003, and the four readings that mislead.
pub mod Gate
pub mod Misleading
