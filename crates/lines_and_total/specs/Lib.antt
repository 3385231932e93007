-- What the whole account promises, and what its parts ask and promise.
pub mod Listing
pub mod Settled
