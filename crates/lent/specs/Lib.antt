-- What is written into a lent list.
pub mod Entries
