-- The laws that the text rests on.
pub mod PutLaws
pub mod DigitLaws
pub mod TextLaws
pub mod MarginLaws
