-- Document 01, Checked values: the output that it shows for its example, computed from the file's bytes.
-- Assumes nothing.
use Prim.Native.Nat.{ℕ}
use mathlib.Core.List.{List, [], ◌∷◌, ◌++◌}
use mathlib.Core.Path.{◌≡◌, refl}
use Rattle.rules.proofs.CheckOrder.{series_bytes, trailer_bytes}
use Rattle.rules.specs.File.{layout, position_row, series_row, span}
use Rattle.rules.specs.Lines.{left_lines, lines, lines_given, margin_answer, pair_lines, premiums, sum_over, sum_to, total}
use Rattle.rules.specs.OnePosition.{unit_margin}
use Rattle.rules.specs.Output.{decimal_in, left_text, lines_text, margin_text, pair_text, totals_text}
use Rattle.rules.specs.Pairs.{along, gap_of, left_after, made_after, may_of, through}
use Rattle.rules.specs.Refusals.{file_read, matched_fault, position_row_fault, position_rows, refuse, rows, series_row_fault, series_rows, trailer_fault}
use Rattle.rules.specs.Spreads.{unit_spread}
use Rattle.rules.specs.Writing.{bytes4}

-- A European row of series 0: its side, Q, PE and premium.
abbrev row_bytes : ℕ → ℕ → ℕ → ℕ → List ℕ
row_bytes side q pe premium =
    (0 ∷ 0 ∷ side ∷ 0 ∷ 4 ∷ 0 ∷ 0 ∷ 0 ∷ []) ++ bytes4 q ++ bytes4 pe ++ bytes4 0 ++ bytes4 0 ++ bytes4 0 ++ bytes4 premium

-- "Call series; row 0 written PE 3100 Q 10; row 1 held PE 3250 Q 4; row 2 held PE 3000 Q 3 premium 20; all European."
abbrev pub example : List ℕ
example = series_bytes 3000 0 ++ row_bytes 1 10 3100 0 ++ row_bytes 0 4 3250 0 ++ row_bytes 0 3 3000 20 ++ trailer_bytes 1 3 (span 1 3) 0

pub printed :
    margin_text example
    ≡
    -- pair 0 2 3 0
    (112 ∷ 97 ∷ 105 ∷ 114 ∷ 32 ∷ 48 ∷ 32 ∷ 50 ∷ 32 ∷ 51 ∷ 32 ∷ 48 ∷ 10 ∷ [])
    -- pair 0 1 4 3000
    ++ (112 ∷ 97 ∷ 105 ∷ 114 ∷ 32 ∷ 48 ∷ 32 ∷ 49 ∷ 32 ∷ 52 ∷ 32 ∷ 51 ∷ 48 ∷ 48 ∷ 48 ∷ 10 ∷ [])
    -- left 0 3 7500
    ++ (108 ∷ 101 ∷ 102 ∷ 116 ∷ 32 ∷ 48 ∷ 32 ∷ 51 ∷ 32 ∷ 55 ∷ 53 ∷ 48 ∷ 48 ∷ 10 ∷ [])
    -- premium 300
    ++ (112 ∷ 114 ∷ 101 ∷ 109 ∷ 105 ∷ 117 ∷ 109 ∷ 32 ∷ 51 ∷ 48 ∷ 48 ∷ 10 ∷ [])
    -- total 10800
    ++ (116 ∷ 111 ∷ 116 ∷ 97 ∷ 108 ∷ 32 ∷ 49 ∷ 48 ∷ 56 ∷ 48 ∷ 48 ∷ 10 ∷ [])
unfolding margin_text lines_text pair_text left_text totals_text decimal_in margin_answer lines_given lines left_lines pair_lines left_after made_after through along may_of gap_of unit_spread unit_margin premiums total sum_to sum_over file_read layout series_row position_row series_rows position_rows rows trailer_fault series_row_fault position_row_fault matched_fault refuse
printed = refl
