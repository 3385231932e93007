-- What a call of the pairing in instalments, or one that takes pairs apart, works out before its lines are compared with the
-- caller's list, and what follows from the comparison.
pub mod Ready
