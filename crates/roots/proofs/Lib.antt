-- Of any least or greatest number.
pub mod Extremes
-- Of a table, and of this one.
pub mod Every
pub mod Squares
