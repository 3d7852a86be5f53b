-- A recorded stream played piece by piece, and that the lines of the pieces are those of the whole stream.
pub mod Moving
pub mod Framing
pub mod Texts
pub mod Opening
pub mod Printing
pub mod Rows
pub mod Turning
pub mod Refusing
pub mod Running
pub mod Fitting
pub mod Pieces
pub mod Ending
pub mod Whole
