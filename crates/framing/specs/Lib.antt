-- How many bytes a file takes, and what a run over files does.
pub mod Frames
pub mod Runs
