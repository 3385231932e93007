-- Held rows in the order of their strikes, and what is kept of each row.
pub mod Limiters
pub mod Keys
pub mod Marks
pub mod Links
