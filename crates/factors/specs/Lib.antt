-- fa and fb from a code and a number of days: document 02, request 2.
pub mod Factors
-- What functions require and give.
pub mod Numbers
