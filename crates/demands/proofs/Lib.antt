-- That the document's reader and writer are what our functions' contracts say.
pub mod Ours
pub mod Knows
pub mod Depends
pub mod AgreementAlone
