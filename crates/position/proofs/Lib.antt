pub mod Picks
pub mod RowsFit
pub mod Sign
pub mod TermsUnit
