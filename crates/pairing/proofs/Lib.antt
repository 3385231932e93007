-- The laws that the pairing rests on, over plain values.
pub mod FileFacts
pub mod CursorLaws
pub mod RankLaws
pub mod SearchLaws
pub mod RowLaws
pub mod StandingLaws
pub mod LeastLaws
pub mod RenewLaws
pub mod AskLaws
pub mod AlikeLaws
pub mod MakeLaws
pub mod Turn
