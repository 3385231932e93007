-- Document 01, Pairs: spread amounts, lines and total.
use Rattle.std.specs.Prelude.{ℕ, zero, suc, ◌+◌, ◌*◌, cond, List, [], ◌∷◌, ◌++◌, eqb, ltb, length, drop, Option, Some, None, Result, Ok, Err}
use Rattle.rules.specs.File.{Account, account_of, series_of_row}
use Rattle.rules.specs.Limits.{most_positions}
use Rattle.rules.specs.OnePosition.{amount_of, premium_of, unit_margin}
use Rattle.rules.specs.Pairs.{Made, contracts_after, pairs_after}
use Rattle.rules.specs.Refusals.{file_read, refused_at}
use Rattle.rules.specs.Spreads.{unit_spread}
use Rattle.rules.specs.declared.Line.{Line}
use Rattle.rules.specs.declared.Position.{Position}
use Rattle.rules.specs.declared.Refusal.TheVariants.{ListTooShort}
use Rattle.rules.specs.declared.Series.{Series}
use Rattle.rules.specs.declared.Side.{Side}
use Rattle.rules.specs.declared.Side.TheVariants.{Held, Written}
use Rattle.rules.specs.declared.Refused.{Refused}
use Rattle.rules.specs.declared.Tally.{Tally}
use Rattle.rules.specs.declared.Layout.{Layout}

-- The sum of f over 0 to n - 1, and over the elements of a list.
unfoldable pub sum_to : (ℕ → ℕ) → ℕ → ℕ
sum_to f zero = 0
sum_to f (suc n) = sum_to f n + f n

unfoldable pub sum_over : {A : Type 0} → (A → ℕ) → List A → ℕ
sum_over f [] = 0
sum_over f (x ∷ l) = f x + sum_over f l

-- P holds of each element of a list.
abbrev pub Each : {A : Type 0} → (A → Type 0) → List A → Type 0
Each P [] = Unit {0}
Each P (x ∷ l) = P x × Each P l

-- "A spread amount is unit × M × quantity, rounded as above". A barred pair is never made.
abbrev pub spread_unit : Option ℕ → ℕ
spread_unit None = 0
spread_unit (Some unit) = unit

abbrev pub spread_amount : Account → Made → ℕ
spread_amount a m =
    amount_of
    (spread_unit (unit_spread (series_of_row a m.written) (a.position_at m.held) (a.position_at m.written)))
    (series_of_row a m.written).m
    m.quantity

-- "pairs as made (written row, held row, quantity, amount)"; "1 for a pair .. then those fields in that order"
abbrev pub pair_line : Account → Made → Line
pair_line a m =
    record {
      kind = 1;
      secondNumber = m.written;
      thirdNumber = m.held;
      fourthNumber = m.quantity;
      fifthNumber = spread_amount a m;
    }

unfoldable pub pair_lines : Account → List Made → List Line
pair_lines a [] = []
pair_lines a (m ∷ rest) = pair_line a m ∷ pair_lines a rest

-- "(row, quantity, amount, 0 if held)": a written row's amount is that of one position, for the quantity left.
abbrev pub left_amount : Side → Series → Position → ℕ → ℕ
left_amount Held s p quantity = 0
left_amount Written s p quantity = amount_of (unit_margin s p) s.m quantity

-- The same of row r.
abbrev pub left_amount_at : Account → ℕ → ℕ → ℕ
left_amount_at a r quantity = left_amount (a.position_at r).side (series_of_row a r) (a.position_at r) quantity

-- "2 for a row left .. a left entry's fifth number is 0"
abbrev pub left_line : Account → ℕ → ℕ → Line
left_line a r quantity =
    record {
      kind = 2;
      secondNumber = r;
      thirdNumber = quantity;
      fourthNumber = left_amount_at a r quantity;
      fifthNumber = 0;
    }

-- "then rows with contracts left, in row order": rows 0 to n - 1.
unfoldable pub left_lines : Account → (ℕ → ℕ) → ℕ → List Line
left_lines a left zero = []
left_lines a left (suc r) = left_lines a left r ++ cond (ltb 0 (left r)) (left_line a r (left r) ∷ []) []

-- The quantity of row r's left line after n rounds of pairing: "The left line of a held row counts blocked ones too" (document
-- 02 [9]). A written row has none blocked.
abbrev pub left_with_blocked : Account → ℕ → ℕ → ℕ
left_with_blocked a n r = contracts_after a n r + (a.position_at r).blocked

-- The lines of an account after n rounds of pairing: the pairs so far, then each row with contracts left.
abbrev pub lines_after : Account → ℕ → List Line
lines_after a n = pair_lines a (pairs_after a n) ++ left_lines a (left_with_blocked a n) a.positions

-- "Repeat until no pair is allowed." A pair leaves one of its rows without contracts, so p rounds are always enough: after
-- them no pair is allowed (`Demand3.unmade`). These are the lines of an account.
unfoldable pub lines : Account → List Line
lines a = lines_after a a.positions

-- How many entries a list needs for an account of p positions: "refusal 12 is now given below 2 × p entries" (document 02 [9]).
-- Of lines "there can be up to 2 × p − 1 .. where p is above 0" (`LineLaws.line_count_lem`).
abbrev pub entries_for : ℕ → ℕ
entries_for p = 2 * p

-- As many entries are enough for every account.
abbrev pub most_lines : ℕ
most_lines = entries_for most_positions

-- A line's amount: a pair's is its fifth number, a left row's its fourth.
abbrev pub line_amount : Line → ℕ
line_amount x = cond (eqb x.kind 1) x.fifthNumber x.fourthNumber

-- "premium × M × Q of every held row, paired or not"
abbrev pub held_premium : Side → Series → Position → ℕ
held_premium Held s p = premium_of s p
held_premium Written s p = 0

-- The same of row r.
abbrev pub premium_at : Account → ℕ → ℕ
premium_at a r = held_premium (a.position_at r).side (series_of_row a r) (a.position_at r)

unfoldable pub premiums : Account → ℕ
premiums a = sum_to (λ r. premium_at a r) a.positions

-- A file's premiums by themselves: those of its account, or its refusal.
abbrev pub premiums_of : List ℕ → Result Layout Refused → Result ℕ Refused
premiums_of b (Err refusal) = Err refusal
premiums_of b (Ok l) = Ok (premiums (account_of b l))

unfoldable pub premium_answer : List ℕ → Result ℕ Refused
premium_answer b = premiums_of b (file_read b)

-- "Total = line amounts + premium × M × Q of every held row", after n rounds and of the account.
abbrev pub total_after : Account → ℕ → ℕ
total_after a n = sum_over line_amount (lines_after a n) + premiums a

unfoldable pub total : Account → ℕ
total a = total_after a a.positions

-- So many lines and this total.
abbrev pub comes_to : ℕ → ℕ → Result Tally Refused
comes_to count total = Ok (record { count = count; total = total })

-- The answer for a file and a list of n entries: the reading's refusal, then 12, "given below 2 × p entries" (document 02 [9]),
-- with row 0; else the line count and the total.
abbrev pub margin_for_list : List ℕ → ℕ → Result Layout Refused → Result Tally Refused
margin_for_list b n (Err refusal) = Err refusal
margin_for_list b n (Ok l) =
    cond (ltb n (entries_for l.positions)) (refused_at ListTooShort 0)
    (comes_to (length (lines (account_of b l))) (total (account_of b l)))

unfoldable pub margin_answer : List ℕ → ℕ → Result Tally Refused
margin_answer b n = margin_for_list b n (file_read b)

-- The lines of an answer: those of the account, none on a refusal.
abbrev pub lines_for : List ℕ → Result Layout Refused → Result Tally Refused → List Line
lines_for b read (Err refusal) = []
lines_for b (Err refusal) (Ok margin) = []
lines_for b (Ok l) (Ok margin) = lines (account_of b l)

unfoldable pub lines_given : List ℕ → ℕ → List Line
lines_given b n = lines_for b (file_read b) (margin_answer b n)

-- What the list holds after that answer: the lines, and "entries after it stay"; on a refusal there are none, so that
-- "Every lent list keeps its content".
unfoldable pub list_after : List ℕ → List Line → List Line
list_after b out = lines_given b (length out) ++ drop (length (lines_given b (length out))) out
