-- What a C program is told.
pub mod MarginNumbers
pub mod InstalmentNumbers
pub mod FactorNumbers
pub mod DayNumbers
