pub mod Known
pub mod Accepted
