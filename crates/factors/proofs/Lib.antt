-- Multiplications, each rounded.
pub mod Multiplied
-- The daily factors.
pub mod Daily
-- Limits of every number on the way.
pub mod FactorLimits
-- For code: what each step requires and gives.
pub mod Steps
-- What users cite.
pub mod Powers
pub mod FactorPromises
-- The values of the request, and that there is one answer.
pub mod FactorValues
pub mod OneAnswer
