-- What the core works out is what the operations promise.
pub mod Settling
pub mod Instalments
pub mod Apart
-- What a C program is told.
pub mod AnswerNumbers
pub mod FactorAnswers
pub mod InstalmentTold
pub mod ApartTold
pub mod LoadTold
