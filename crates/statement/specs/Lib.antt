-- How a text is put into bytes, and how many it takes at most.
pub mod Puts
pub mod Sizes
