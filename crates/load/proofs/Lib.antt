-- What code rests on, over plain values: the rows drawn, one draw after the other, and the file written part by part.
pub mod DrawLaws
pub mod LoadWriting
-- What is answered, and what is promised.
pub mod LoadAnswers
pub mod DrawnLimits
pub mod LoadPromises
pub mod LoadTables
