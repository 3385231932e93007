pub mod Picks
pub mod ChargeLaws
