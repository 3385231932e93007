-- The laws that the whole account rests on, over plain values.
pub mod RowLaws
pub mod ListingLaws
pub mod SettleLaws
