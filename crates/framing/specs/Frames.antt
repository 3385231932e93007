-- How many bytes of the space a file takes.
use Rattle.std.specs.Prelude.{ℕ, Option, Some, None, Result, Ok, Err}
use Rattle.framing.specs.declared.CutOff.{CutOff}

abbrev pub frame_length : Result (Option ℕ) CutOff → ℕ
frame_length (Ok (Some n)) = n
frame_length (Ok None) = 0
frame_length (Err cut_off) = 0
