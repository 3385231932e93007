-- Laws of the entries that are compared and written, zeros too.
pub mod Zeros
pub mod EntryLaws
pub mod ZeroLines
