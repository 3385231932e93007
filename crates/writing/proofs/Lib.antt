-- What the code that writes rows rests on, over plain values.
pub mod RowsStored
