-- The laws that the tree rests on.
pub mod TreeLaws
