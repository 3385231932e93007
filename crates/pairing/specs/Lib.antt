-- What the pairing keeps and promises.
pub mod Resting
pub mod OneProof
pub mod Cursors
pub mod Standings
pub mod Pairing
