-- The definitions of document 01, in its order; a long section has two or three files.
pub mod Quantities
pub mod File
pub mod Limits
pub mod Refusals
pub mod OnePosition
pub mod Spreads
pub mod Pairs
pub mod Lines
pub mod Output
pub mod Paths
pub mod Promises
-- What is written into bytes: rows by document 01, and stores, for document 02 [5] and [10].
pub mod Writing
-- Document 02 [5].
pub mod Day
-- Document 02 [6].
pub mod Reais
-- Document 02 [7].
pub mod Instalments
-- Document 02 [8].
pub mod TakingApart
-- Document 02 [9].
pub mod Blocked
-- Document 02 [11].
pub mod LongExpiries
