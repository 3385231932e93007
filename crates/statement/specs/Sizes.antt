-- The most bytes of each text.
use Rattle.std.specs.Prelude.{ℕ, ◌+◌, ◌*◌}
use Rattle.rules.specs.Lines.{most_lines}
use Rattle.rules.specs.Output.{most_digits}

-- A space and the digits.
abbrev pub most_number_text : ℕ
most_number_text = 1 + most_digits

-- `pair` or `left`, four numbers at most, and the line's end.
abbrev pub most_line_text : ℕ
most_line_text = 5 + 4 * most_number_text

-- `premium` and `total`, each with its number and its line's end.
abbrev pub most_totals_text : ℕ
most_totals_text = 14 + 2 * most_number_text

-- `refused`, two numbers and the line's end.
abbrev pub most_refused_text : ℕ
most_refused_text = 8 + 2 * most_number_text

-- All lines, the premiums and the total. A refusal is shorter.
abbrev pub most_text : ℕ
most_text = most_line_text * most_lines + most_totals_text
