-- Lines as plain numbers: three to a line, one line after the other. The first number has the kind and the second and third
-- number of document 01's five, which are small; the other two are its fourth and fifth.
use Rattle.std.specs.Prelude.{ℕ, zero, suc, ◌+◌, ◌*◌, ◌/◌, ◌%◌, ◌≤◌, ◌<◌, List, [], ◌∷◌, ◌++◌, ◌≡◌, get_or, Result, Ok, Err}
use Rattle.rules.specs.Limits.{most_positions}
use Rattle.rules.specs.Lines.{most_lines}
use Rattle.rules.specs.declared.Line.{Line}
use Rattle.rules.specs.declared.Refused.{Refused}
use Rattle.rules.specs.declared.Tally.{Tally}

-- The numbers of one line, those of as many lines as an account has at most, and of as many as it has pairs at most: there are
-- fewer pairs than positions, or none (`Counts.made_below`).
abbrev pub numbers_per_line : ℕ
numbers_per_line = 3

abbrev pub most_numbers : ℕ
most_numbers = numbers_per_line * most_lines

abbrev pub most_pair_numbers : ℕ
most_pair_numbers = numbers_per_line * most_positions

-- Kind, second and third number in one: the kind has 2 bits of it, the second number 8, the third the rest.
abbrev pub head_of : Line → ℕ
head_of line = line.kind + line.secondNumber * 4 + line.thirdNumber * 1_024

-- A line whose first three numbers can stand in one: a row is below 256, contracts are at most 100,000.
pub record Packable (line : Line) : Type 0 where
  pub kind_most : line.kind ≤ 3
  pub second_most : line.secondNumber ≤ 255
  pub third_most : line.thirdNumber ≤ 100_000

-- Line i of the numbers.
abbrev pub line_from : List ℕ → ℕ → Line
line_from numbers i =
    record {
      kind = get_or numbers (numbers_per_line * i) 0 % 4;
      secondNumber = get_or numbers (numbers_per_line * i) 0 / 4 % 256;
      thirdNumber = get_or numbers (numbers_per_line * i) 0 / 1_024;
      fourthNumber = get_or numbers (numbers_per_line * i + 1) 0;
      fifthNumber = get_or numbers (numbers_per_line * i + 2) 0;
    }

-- The first n lines of the numbers.
unfoldable pub lines_from : List ℕ → ℕ → List Line
lines_from numbers zero = []
lines_from numbers (suc n) = lines_from numbers n ++ (line_from numbers n ∷ [])

-- How many lines an answer has.
abbrev pub line_count : Result Tally Refused → ℕ
line_count (Ok margin) = margin.count
line_count (Err refusal) = 0

-- What writing line k leaves: that line, and the numbers before and after it as they were.
pub record LineWritten (k : ℕ) (line : Line) (old new : List ℕ) : Type 0 where
  pub line_is : line_from new k ≡ line
  pub before : (i : ℕ) → i < numbers_per_line * k → get_or new i 0 ≡ get_or old i 0
  pub after : (i : ℕ) → numbers_per_line * k + numbers_per_line ≤ i → get_or new i 0 ≡ get_or old i 0
