-- What the code of the day rests on, over plain values.
pub mod Crossed
pub mod Loop
pub mod Refused
