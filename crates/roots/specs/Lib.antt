-- S(n) of document 02, request 2.
pub mod Roots
