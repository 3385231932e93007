-- The laws that the calls rest on, over plain values.
pub mod ReadyLaws
