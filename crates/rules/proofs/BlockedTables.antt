-- Values of contracts blocked as collateral, one theorem, from bytes: the limits of the number and the order of 7, 8 and 9; an
-- account with blocked contracts, its lines and total, its contracts left, its pairs in instalments and taken apart, and after a
-- day; held rows that are the same as a written one; and the most lines that an account of p rows can have.
-- Assumes nothing.
use Prim.Native.Nat.{ℕ, ◌*◌, ◌-◌}
use mathlib.Core.List.{List, [], ◌∷◌, ◌++◌}
use mathlib.Core.Path.{◌≡◌, refl}
use lib.IntN.{pos}
use Rattle.rules.proofs.CheckOrder.{trailer_bytes}
use Rattle.rules.proofs.FileTables.{row_bytes_with, typed_bytes}
use Rattle.rules.proofs.InstalmentTables.{line_of, mark}
use Rattle.rules.specs.Day.{day_fault, day_written, file_after, flags_after}
use Rattle.rules.specs.File.{account_of, layout, position_row, series_row, span}
use Rattle.rules.specs.Instalments.{amount_so_far, begins_with, instalment_fault, list_paired, pair_answer}
use Rattle.rules.specs.Lines.{comes_to, entries_for, left_lines, lines, lines_given, margin_answer, most_lines, pair_lines, premium_answer, premiums, sum_over, sum_to, total}
use Rattle.rules.specs.OnePosition.{amount_answer, position_amount, signed_answer, unit_margin}
use Rattle.rules.specs.Pairs.{along, available, contracts_after, gap_of, left_after, made_after, may_of, through}
use Rattle.rules.specs.Promises.{unpaired}
use Rattle.rules.specs.Refusals.{file_read, matched_fault, meaning, position_row_fault, position_rows, refuse, refused, refused_at, rows, series_row_fault, series_rows, trailer_fault}
use Rattle.rules.specs.Spreads.{unit_spread}
use Rattle.rules.specs.TakingApart.{apart_answer, apart_fault, contracts_left, list_apart}
use Rattle.rules.specs.Writing.{stores}
use Rattle.rules.specs.declared.Day.{Day}
use Rattle.rules.specs.declared.Line.{Line}
use Rattle.rules.specs.declared.Refusal.TheVariants.{ListTooShort}
use Rattle.std.specs.Prelude.{Ok}

-- A European row without barrier: side, number blocked, Q, PE, PB, premium.
abbrev row_with : ℕ → ℕ → ℕ → ℕ → ℕ → ℕ → List ℕ
row_with side blocked q pe pb premium = row_bytes_with blocked 0 side 0 4 q pe pb 0 0 premium

-- A held row by the number blocked, Q, PE and premium, and a written one by Q and PE.
abbrev held : ℕ → ℕ → ℕ → ℕ → List ℕ
held blocked q pe premium = row_with 0 blocked q pe 0 premium

abbrev written : ℕ → ℕ → List ℕ
written q pe = row_with 1 0 q pe 0 0

-- Calls of document 01's series.
abbrev account : ℕ → List ℕ → List ℕ
account p rows = typed_bytes 3000 0 ++ rows ++ trailer_bytes 1 p (span 1 p) 0

-- A row by itself is accepted, and refused.
abbrev Taken : List ℕ → Type 0
Taken row = file_read (account 1 row) ≡ Ok (record { series = 1; positions = 1; seriesStart = 0; positionsStart = 24; width = 32 })

abbrev Turned : ℕ → List ℕ → Type 0
Turned number row = meaning (account 1 row) ≡ refused number 0

-- "the number blocked, at most Q", of 24 bits with the low byte first; "on a written row they stay zero under refusal 7"
abbrev Limits : Type 0
Limits =
    Taken (held 0 300 3250 0)
    × Taken (held 1 300 3250 0)
    × Taken (held 299 300 3250 0)
    × Taken (held 300 300 3250 0)
    × Turned 8 (held 301 300 3250 0)
    × Turned 8 (held 16_777_215 300 3250 0)
    × Taken (held 65_536 100_000 3250 0)
    × Taken (held 100_000 100_000 3250 0)
    × Turned 8 (held 100_001 100_000 3250 0)
    × Turned 8 (held 65_536 65_535 3250 0)
    × Turned 7 (row_with 1 1 300 3100 0 0)
    × Turned 7 (row_with 1 256 300 3100 0 0)
    × Turned 7 (row_with 1 65_536 100_000 3100 0 0)
    -- 7 before 8: above Q on a written row; 8 before 9: above Q, and PB without its flag
    × Turned 7 (row_with 1 301 300 3100 0 0)
    × Turned 8 (row_with 0 301 300 3100 3300 0)
    × Turned 9 (row_with 0 300 300 3100 3300 0)

-- Document 01's example with one of four contracts of row 1 blocked, and all three of row 2.
abbrev some : List ℕ
some = account 3 (written 10 3100 ++ held 1 4 3250 0 ++ held 3 3 3000 20)

-- Row 1 pairs 3 contracts at 150 ticks × 5 centavos, rounded up, and row 2, whose strike is nearer, none. Row 0 has 7 left at
-- 500 ticks. The left lines of rows 1 and 2 count the blocked ones.
abbrev some_pair : Line
some_pair = line_of 1 0 1 3 2_300

abbrev SomeBlocked : Type 0
SomeBlocked =
    (lines_given some 6 ≡ some_pair ∷ line_of 2 0 7 17_500 0 ∷ line_of 2 1 1 0 0 ∷ line_of 2 2 3 0 0 ∷ [])
    × (margin_answer some 6 ≡ comes_to 4 20_100)
    × (margin_answer some 5 ≡ refused_at ListTooShort 0)
    -- Premiums, and a held row's amount, are over Q
    × (premium_answer some ≡ Ok 300)
    × (signed_answer (amount_answer some 2) ≡ pos 300)
    -- What pairing may use at the start, and after all pairs
    × (available (account_of some (layout some)) 1 ≡ 3)
    × (available (account_of some (layout some)) 2 ≡ 0)
    × (contracts_after (account_of some (layout some)) 3 1 ≡ 0)
    × (unpaired (account_of some (layout some)) 0 ≡ 7)
    × (unpaired (account_of some (layout some)) 1 ≡ 0)
    × (unpaired (account_of some (layout some)) 2 ≡ 0)

-- The same in instalments, and taken apart: the contracts left count the blocked ones.
abbrev six_with : Line → List Line
six_with x = x ∷ mark 8 ∷ mark 9 ∷ mark 10 ∷ mark 11 ∷ mark 12 ∷ []

abbrev left : Line → ℕ → ℕ → ℕ
left x count row = contracts_left (account_of some (layout some)) (record { list = six_with x; count = count }) row

abbrev InInstalments : Type 0
InInstalments =
    (pair_answer some (six_with (mark 7)) 0 5 ≡ Ok 1)
    × (list_paired some (six_with (mark 7)) 0 5 ≡ six_with some_pair)
    × (amount_so_far some (six_with (mark 7)) 0 ≡ Ok 25_300)
    × (amount_so_far some (six_with some_pair) 1 ≡ Ok 20_100)
    × (apart_answer some (six_with some_pair) 1 1 ≡ Ok 0)
    × (list_apart some (six_with some_pair) 1 1 ≡ six_with (mark 0))
    × (left some_pair 1 0 ≡ 7)
    × (left some_pair 1 1 ≡ 1)
    × (left some_pair 0 1 ≡ 4)
    × (left some_pair 1 2 ≡ 3)

-- A held row that is the same as the written one: all its contracts blocked, all but one, none.
abbrev twin : ℕ → List ℕ
twin blocked = account 2 (written 4 3100 ++ held blocked 4 3100 0)

abbrev SameRows : Type 0
SameRows =
    (lines_given (twin 4) 4 ≡ line_of 2 0 4 10_000 0 ∷ line_of 2 1 4 0 0 ∷ [])
    × (lines_given (twin 3) 4 ≡ line_of 1 0 1 1 0 ∷ line_of 2 0 3 7_500 0 ∷ line_of 2 1 3 0 0 ∷ [])
    × (lines_given (twin 0) 4 ≡ line_of 1 0 1 4 0 ∷ [])

-- A day of the series changes PV and no row here, so that the number blocked is as it was.
abbrev day : Day
day = record { series = 0; high = 3050; low = 2950; close = 3010 }

abbrev AfterTheDay : Type 0
AfterTheDay =
    ((position_row (file_after some day) (layout some) 1).blocked ≡ 1)
    × ((position_row (file_after some day) (layout some) 2).blocked ≡ 3)
    × (lines_given (file_after (twin 3) day) 4 ≡ line_of 1 0 1 1 0 ∷ line_of 2 0 3 7_700 0 ∷ line_of 2 1 3 0 0 ∷ [])

-- "there can be up to 2 × p − 1 lines": of a written row and p - 1 held ones with two contracts each, one blocked. Each held row
-- makes a pair and has a left line, and the written row has one too.
abbrev one : List ℕ
one = account 1 (written 10 3100)

abbrev two : List ℕ
two = account 2 (written 10 3100 ++ held 1 2 3000 0)

abbrev eight : List ℕ
eight =
    account 8
    (written 10 3100 ++ held 1 2 3000 0 ++ held 1 2 3010 0 ++ held 1 2 3020 0 ++ held 1 2 3030 0 ++ held 1 2 3040 0 ++ held 1 2 3050 0 ++ held 1 2 3060 0)

abbrev MostLines : Type 0
MostLines =
    (margin_answer one 2 ≡ comes_to (2 * 1 - 1) 25_000)
    × (margin_answer two 4 ≡ comes_to (2 * 2 - 1) 22_500)
    × (margin_answer eight 16 ≡ comes_to (2 * 8 - 1) 7_500)
    × (margin_answer eight 15 ≡ refused_at ListTooShort 0)
    × (entries_for 8 ≡ 16)
    × (most_lines ≡ 512)

pub blocked_values : Limits × SomeBlocked × InInstalments × SameRows × AfterTheDay × MostLines
unfolding margin_answer lines_given lines total premium_answer amount_answer position_amount pair_answer list_paired amount_so_far instalment_fault begins_with apart_answer apart_fault list_apart file_after day_written day_fault stores flags_after left_lines pair_lines left_after made_after through along may_of gap_of unit_spread unit_margin premiums sum_to sum_over meaning file_read layout series_row position_row series_rows position_rows rows trailer_fault series_row_fault position_row_fault matched_fault refuse
blocked_values = (
  (refl, refl, refl, refl, refl, refl, refl, refl, refl, refl, refl, refl, refl, refl, refl, refl),
  (refl, refl, refl, refl, refl, refl, refl, refl, refl, refl, refl),
  (refl, refl, refl, refl, refl, refl, refl, refl, refl, refl),
  (refl, refl, refl),
  (refl, refl, refl),
  (refl, refl, refl, refl, refl, refl),
)
