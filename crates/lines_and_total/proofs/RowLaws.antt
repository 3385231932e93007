-- Rows as the code reads them: contracts, premiums and amounts left.
-- Assumes nothing.
use Prim.Native.Nat.{ℕ, ◌+◌, ◌-◌, ◌≤◌, ◌<◌}
use mathlib.Core.Bool.{true}
use mathlib.Core.List.{List}
use mathlib.Core.Logic.{◌⊎◌, inl, inr}
use mathlib.Core.Path.{◌≡◌, refl, sym, ap, subst, ◌∙◌}
use native.Mathlib.Nat.{eq-or-lt_of_le}
use native.Mathlib.Omega.{arith}
use lib.ListN.{length, set}
use lib.Seq.{get_or-set_other, get_or-set_same}
use Rattle.account.proofs.KnownRows.{position_within}
use Rattle.account.specs.Known.{Known}
use Rattle.numbers.specs.Lists.{nth}
use Rattle.lines_and_total.specs.Listing.{AmountAsked, ContractsTo, LeftAsked}
use Rattle.position.proofs.RowsFit.{at_row, row_fits}
use Rattle.position.specs.Fits.{RowFits}
use Rattle.rules.specs.File.{Account, account_of}
use Rattle.rules.specs.Lines.{held_premium, left_amount, left_amount_at, premium_at}
use Rattle.rules.specs.OnePosition.{unit_margin}
use Rattle.rules.specs.Pairs.{available, is_written}
use Rattle.rules.specs.declared.Layout.{Layout}
use Rattle.rules.specs.declared.Position.{Position}
use Rattle.rules.specs.declared.Series.{Series}
use Rattle.rules.specs.declared.Side.{Side}
use Rattle.rules.specs.declared.Side.TheVariants.{Held, Written}

module _ (b : List ℕ) (l : Layout) (row : ℕ) (s : Series) (p : Position) (ep : p ≡ (account_of b l).position_at row) (es : s ≡ (account_of b l).series_at p.series) where
  pub read_fits : Known b l → row < l.positions → RowFits s p
  read_fits k h = at_row RowFits (account_of b l) row s p ep es (row_fits b l k row h)

  pub left_asks : (unit q : ℕ) → AmountAsked b l row unit q → LeftAsked s p unit q
  left_asks unit q ask =
      record {
        fits = read_fits ask.file ask.row_below;
        unit_is =
            at_row (λ s p. is_written p.side ≡ true → unit ≡ unit_margin s p) (account_of b l) row s p ep es ask.unit_is;
        q_most = ask.q_most;
      }

  pub premium_is : held_premium p.side s p ≡ premium_at (account_of b l) row
  premium_is = at_row (λ s p. held_premium p.side s p ≡ premium_at (account_of b l) row) (account_of b l) row s p ep es refl

  -- A row without a premium, whichever its side.
  pub no_premium : p.premium ≡ 0 → 0 ≡ premium_at (account_of b l) row
  no_premium e = by_side p.side ∙ premium_is
    where
      by_side : (side : Side) → 0 ≡ held_premium side s p
      by_side Held = rw e (omega arith)
      by_side Written = refl

  pub left_is : (q : ℕ) → left_amount p.side s p q ≡ left_amount_at (account_of b l) row q
  left_is q = at_row (λ s p. left_amount p.side s p q ≡ left_amount_at (account_of b l) row q) (account_of b l) row s p ep es refl

-- The blocked contracts of a position as it was read are among its contracts.
pub read_blocked : (b : List ℕ) (l : Layout) → Known b l → (row : ℕ) → row < l.positions → (p : Position) → p ≡ (account_of b l).position_at row
    → p.blocked ≤ p.q
read_blocked b l k row h p e = subst (λ (x : Position). x.blocked ≤ x.q) (sym e) (position_within b l k row h).blocked_most

-- One row's contracts more.
pub contracts_more : (a : Account) (left : List ℕ) (row : ℕ) (p : Position) → row < length left → p ≡ a.position_at row
    → ContractsTo a left row → ContractsTo a (set left row (p.q - p.blocked)) (row + 1)
contracts_more a left row p long e before r h = go (eq-or-lt_of_le (below h))
  where
    below : r < row + 1 → r ≤ row
    below l = omega arith

    go : (r ≡ row) ⊎ (r < row) → nth (set left row (p.q - p.blocked)) r ≡ available a r
    go (inl i) = rw i (get_or-set_same left row (p.q - p.blocked) 0 long ∙ ap (λ (x : Position). x.q - x.blocked) e)
    go (inr l) = get_or-set_other left row r (p.q - p.blocked) 0 (λ (i : r ≡ row). omega arith) ∙ before r l
