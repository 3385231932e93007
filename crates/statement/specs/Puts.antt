-- A text put at a place of the bytes, those before it as they were.
use Rattle.std.specs.Prelude.{ℕ, ◌+◌, List, ◌++◌, ◌≡◌, length, take}

-- `end` is where the text ends, put at `at`.
pub record Put (old new : List ℕ) (at end : ℕ) (text : List ℕ) : Type 0 where
  pub end_is : end ≡ at + length text
  pub text_is : take end new ≡ take at old ++ text
