-- Document 01, Checked values: what the margin program prints, in ASCII. "Output, in the field order above, or `refused`
-- with number and row": a line a pair, a line a row left, `premium`, `total`. A number stands after a space, a line ends
-- in a line feed.
use Rattle.std.specs.Prelude.{ℕ, zero, suc, ◌+◌, ◌/◌, ◌%◌, cond, List, [], ◌∷◌, ◌++◌, decimal, eqb, ltb, Result, Ok, Err}
use Rattle.rules.specs.File.{account_of}
use Rattle.rules.specs.Lines.{lines_given, margin_answer, most_lines, premiums}
use Rattle.rules.specs.Refusals.{file_read, number}
use Rattle.rules.specs.declared.Line.{Line}
use Rattle.rules.specs.declared.Refused.{Refused}
use Rattle.rules.specs.declared.Tally.{Tally}
use Rattle.rules.specs.declared.Layout.{Layout}

-- The decimal digits of n: those of n / 10, then the last one. The first number bounds how many there are.
unfoldable pub decimal_in : ℕ → ℕ → List ℕ
decimal_in zero n = []
decimal_in (suc places) n = cond (ltb n 10) ((48 + n) ∷ []) (decimal_in places (n / 10) ++ ((48 + n % 10) ∷ []))

-- 20 digits are enough for a number of 64 bits.
abbrev pub most_digits : ℕ
most_digits = 20

-- A space and the number.
abbrev pub number_text : ℕ → List ℕ
number_text n = 32 ∷ decimal_in most_digits n

-- The words: pair, left, premium, total, refused.
abbrev pub pair_word : List ℕ
pair_word = 112 ∷ 97 ∷ 105 ∷ 114 ∷ []

abbrev pub left_word : List ℕ
left_word = 108 ∷ 101 ∷ 102 ∷ 116 ∷ []

abbrev pub premium_word : List ℕ
premium_word = 112 ∷ 114 ∷ 101 ∷ 109 ∷ 105 ∷ 117 ∷ 109 ∷ []

abbrev pub total_word : List ℕ
total_word = 116 ∷ 111 ∷ 116 ∷ 97 ∷ 108 ∷ []

abbrev pub refused_word : List ℕ
refused_word = 114 ∷ 101 ∷ 102 ∷ 117 ∷ 115 ∷ 101 ∷ 100 ∷ []

abbrev pub line_feed : List ℕ
line_feed = 10 ∷ []

-- "pairs as made (written row, held row, quantity, amount)"
unfoldable pub pair_text : Line → List ℕ
pair_text x =
    ((((pair_word ++ number_text x.secondNumber) ++ number_text x.thirdNumber) ++ number_text x.fourthNumber) ++ number_text x.fifthNumber)
    ++ line_feed

-- "rows with contracts left, in row order (row, quantity, amount, 0 if held)"
unfoldable pub left_text : Line → List ℕ
left_text x = (((left_word ++ number_text x.secondNumber) ++ number_text x.thirdNumber) ++ number_text x.fourthNumber) ++ line_feed

-- A line, by its kind.
abbrev pub line_text : Line → List ℕ
line_text x = cond (eqb x.kind 1) (pair_text x) (left_text x)

-- The lines, one after the other.
unfoldable pub lines_text : List Line → List ℕ
lines_text [] = []
lines_text (x ∷ l) = line_text x ++ lines_text l

-- The premiums of all held rows and the total, a line each.
unfoldable pub totals_text : ℕ → ℕ → List ℕ
totals_text premium sum =
    ((((premium_word ++ number_text premium) ++ line_feed) ++ total_word) ++ number_text sum) ++ line_feed

-- "`refused` with number and row"
unfoldable pub refused_text : ℕ → ℕ → List ℕ
refused_text n row = ((refused_word ++ number_text n) ++ number_text row) ++ line_feed

-- A refusal's "number and row" alone, in decimal digits with a space between them: what the programs beside margin write of
-- it after the word.
abbrev pub refusal_text : Refused → List ℕ
refusal_text refusal = decimal (number refusal.why) ++ (32 ∷ decimal refusal.row)

-- "premium × M × Q of every held row", 0 where the file is refused.
abbrev pub premiums_for : List ℕ → Result Layout Refused → ℕ
premiums_for b (Err refusal) = 0
premiums_for b (Ok l) = premiums (account_of b l)

-- The output for an answer.
abbrev pub answer_text : List ℕ → Result Tally Refused → List ℕ
answer_text b (Ok margin) = lines_text (lines_given b most_lines) ++ totals_text (premiums_for b (file_read b)) margin.total
answer_text b (Err refusal) = refused_text (number refusal.why) refusal.row

-- The output for a file. A list of `most_lines` entries is never too short (`Answers.margin_most`).
unfoldable pub margin_text : List ℕ → List ℕ
margin_text b = answer_text b (margin_answer b most_lines)
