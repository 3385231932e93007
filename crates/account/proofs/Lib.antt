-- What the reader's loops and its row reader rest on, over plain values.
pub mod RowReading
-- What is known of the rows of an accepted file.
pub mod KnownRows
