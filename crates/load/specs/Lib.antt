-- Accounts for the bench: document 02 [10].
pub mod Load
-- What functions require and give.
pub mod Rows
