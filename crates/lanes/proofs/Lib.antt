-- The laws that the lanes rest on, over plain values.
pub mod FileFacts
pub mod LimiterLaws
pub mod FamilyLaws
pub mod KeyLaws
pub mod MarkLaws
pub mod SortLaws
pub mod LinkLaws
pub mod TableLaws
