-- Document 02 [6], Calls in whole reais: what is promised of the amounts of every accepted file. The rounding itself is
-- `OnePosition.rounded_up`.
use Rattle.std.specs.Prelude.{ℕ, ◌+◌, ◌*◌, ◌%◌, ◌≤◌, ◌<◌, min, cond, List, ◌≡◌, eqb, length, Some}
use Rattle.rules.specs.File.{Account, series_of_row}
use Rattle.rules.specs.Lines.{Each, line_amount, lines, premiums, spread_unit, sum_over, sum_to, total, total_after}
use Rattle.rules.specs.OnePosition.{position_amount, unit_margin}
use Rattle.rules.specs.Pairs.{book_of, choice, contracts_after, pairs_after}
use Rattle.rules.specs.Refusals.{accepted, meaning}
use Rattle.rules.specs.Spreads.{unit_spread}
use Rattle.rules.specs.declared.Line.{Line}
use Rattle.rules.specs.declared.Position.{Position}
use Rattle.rules.specs.declared.Series.{Series}
use Rattle.rules.specs.declared.Side.{Side}
use Rattle.rules.specs.declared.Side.TheVariants.{Held, Written}

-- An amount in centavos is not below x, fine units times M and contracts, of which a centavo has 1,000,000.
abbrev pub NotBelow : ℕ → ℕ → Type 0
NotBelow x amount = x ≤ amount * 1_000_000

-- "rounded up to a multiple of 100 centavos": the amount is such a multiple, it is not below x, and every other one
-- that is not below x is at least as large.
pub record RoundedToReais (x amount : ℕ) : Type 0 where
  pub whole : amount % 100 ≡ 0
  pub not_below : NotBelow x amount
  pub least : (n : ℕ) → n % 100 ≡ 0 → NotBelow x n → amount ≤ n

-- "unit × M × Q" of so many contracts of a row, 0 if held.
abbrev pub exact_by_side : Side → Series → Position → ℕ → ℕ
exact_by_side Held s p quantity = 0
exact_by_side Written s p quantity = unit_margin s p * s.m * quantity

abbrev pub exact_of_row : Account → ℕ → ℕ → ℕ
exact_of_row a r quantity = exact_by_side (a.position_at r).side (series_of_row a r) (a.position_at r) quantity

-- "unit × M × quantity" of a pair, by the unit spread margin.
abbrev pub exact_of_pair : Account → ℕ → ℕ → ℕ → ℕ
exact_of_pair a w h quantity =
    spread_unit (unit_spread (series_of_row a w) (a.position_at h) (a.position_at w)) * (series_of_row a w).m * quantity

-- A line's amount before the rounding. A pair line's numbers are 1, written row, held row, quantity, amount; a left
-- line's are 2, row, quantity, amount, 0.
abbrev pub exact_amount : Account → Line → ℕ
exact_amount a x =
    cond (eqb x.kind 1) (exact_of_pair a x.secondNumber x.thirdNumber x.fourthNumber)
    (exact_of_row a x.secondNumber x.thirdNumber)

-- "premium × M × Q, exact", of a held row, 0 if written. `Lines.held_premium` and `OnePosition.amount_by_side` say it for
-- the total and for one position; here it is said apart from them, so that a rounding in either contradicts what is
-- promised below.
abbrev pub exact_premium : Side → Series → Position → ℕ
exact_premium Held s p = p.premium * s.m * p.q
exact_premium Written s p = 0

abbrev pub exact_premium_at : Account → ℕ → ℕ
exact_premium_at a r = exact_premium (a.position_at r).side (series_of_row a r) (a.position_at r)

pub record WholeReais (a : Account) : Type 0 where
  -- "Each line amount .. is rounded up to a multiple of 100 centavos"
  pub lines_rounded : Each (λ x. RoundedToReais (exact_amount a x) (line_amount x)) (lines a)
  -- "and the amount for one position"
  pub written_rounded : (r : ℕ) → r < a.positions → (a.position_at r).side ≡ Written
      → RoundedToReais (exact_of_row a r (a.position_at r).q) (position_amount a r)
  -- "Premiums remain exact"
  pub premiums_exact : premiums a ≡ sum_to (λ r. exact_premium_at a r) a.positions
  -- "also as a held position's amount"
  pub held_exact : (r : ℕ) → r < a.positions → (a.position_at r).side ≡ Held → position_amount a r ≡ exact_premium_at a r
  -- "Total = line amounts + premium × M × Q of every held row" (document 01): the sum is not rounded.
  pub total_adds : total a ≡ sum_over line_amount (lines a) + premiums a

-- It is not promised that pairing lowers the total, since each line is rounded by itself. How far pairing can raise it:
pub record RaisedAtMost (a : Account) : Type 0 where
  -- the round that pairs rows w and h by at most 100 centavos, and by nothing where it leaves no contracts in row w,
  pub by_a_pair : (n w h : ℕ) → choice (book_of a) (contracts_after a n) ≡ Some (w, h)
      → total_after a (n + 1) ≤ total_after a n + 100 * min 1 (contracts_after a (n + 1) w)
  -- and n rounds by at most 100 centavos for each pair that they make.
  pub by_all_pairs : (n : ℕ) → total_after a n ≤ total_after a 0 + 100 * length (pairs_after a n)

-- The largest amount of a position or a line, in centavos: PV 10,000,000, fa 10,000,000, PE 1, M 1,000, Q 100,000
-- (`ReaisTables.Largest`). The largest total: 256 such rows (`Most.total_reached`).
abbrev pub most_amount : ℕ
most_amount = 9_999_999_900_000_000

abbrev pub most_total : ℕ
most_total = 2_559_999_974_400_000_000

pub record WithinMost (a : Account) : Type 0 where
  pub position_most : (r : ℕ) → r < a.positions → position_amount a r ≤ most_amount
  pub line_most : Each (λ x. line_amount x ≤ most_amount) (lines a)
  pub total_most : total a ≤ most_total

-- Of a file: for whatever account its bytes mean.
abbrev pub WholeReaisDemand : List ℕ → Type 0
WholeReaisDemand b = (a : Account) → meaning b ≡ accepted a → WholeReais a

abbrev pub RaisedDemand : List ℕ → Type 0
RaisedDemand b = (a : Account) → meaning b ≡ accepted a → RaisedAtMost a

abbrev pub MostDemand : List ℕ → Type 0
MostDemand b = (a : Account) → meaning b ≡ accepted a → WithinMost a
