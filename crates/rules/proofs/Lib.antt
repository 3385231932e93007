-- Theorems about the definitions.
-- The checked values of document 01, and a value for every other rule.
pub mod CheckedValues
pub mod MarginTables
pub mod SpreadTables
pub mod FileTables
pub mod ReaisTables
pub mod RuleValues
-- Laws of the reading.
pub mod Tests
pub mod Chain
pub mod SameAnswers
pub mod Scan
pub mod SeriesLimits
pub mod PositionLimits
pub mod TrailerLimits
pub mod Reading
pub mod CheckOrder
pub mod PrintedOutput
-- The unit margin covers and is least; a pair covers.
pub mod Mirror
pub mod Touch
pub mod Payoff
pub mod Flag16
pub mod Cover
pub mod Proviso
pub mod RowFacts
pub mod Least
pub mod SameRows
pub mod SpreadForms
pub mod PairCover
pub mod LimiterBars
-- Pairing: the choice, the rounds, the lines.
pub mod PairOrder
pub mod Search
pub mod Sums
pub mod Rounds
pub mod Weights
pub mod Counts
pub mod MayPair
pub mod LineLaws
pub mod BlockedRows
pub mod PairPromises
pub mod AccountCover
pub mod PairingExample
-- Bounds for the code.
pub mod Bounds
-- Whole reais (document 02 [6]): the rounding, what pairs can add, the largest amounts.
pub mod WholeReais
pub mod Raised
pub mod Most
-- Demand 3, and rows with flag 16.
pub mod Demand3
pub mod KnockedOut
-- What the operations answer.
pub mod FileNumbers
pub mod Answers
pub mod NoPositions
-- The day: stores, the fields of a file after them, the rows after the day, and what is promised of it.
pub mod Stores
pub mod Fields
pub mod DayLaws
pub mod DayRows
pub mod DayFile
pub mod DayPromises
pub mod DayAnswers
pub mod DayTables
-- Pairing in instalments (document 02 [7]).
pub mod InstalmentLaws
pub mod InstalmentAnswers
pub mod InstalmentLists
pub mod InstalmentPromises
pub mod InstalmentTables
-- Taking pairs apart (document 02 [8]).
pub mod ApartLaws
pub mod ApartAnswers
pub mod ApartLists
pub mod ApartPromises
pub mod ApartTables
-- Contracts blocked as collateral (document 02 [9]).
pub mod BlockedPromises
pub mod BlockedTables
-- A file made of rows is read back (document 02 [10]).
pub mod WrittenRows
pub mod WrittenFile
-- Cover for long expiries (document 02 [11]); the theorem is `Demand3.cover_long`.
pub mod LongExpiryTables
