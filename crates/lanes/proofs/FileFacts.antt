-- What an accepted file says of its rows, as far as keys rest on it.
-- Assumes nothing.
use Prim.Native.Nat.{ℕ, ◌≤◌, ◌<◌}
use mathlib.Core.List.{List}
use mathlib.Core.Path.{◌≡◌}
use native.Mathlib.Omega.{arith}
use Rattle.account.proofs.KnownRows.{position_within}
use Rattle.account.specs.Known.{Known}
use Rattle.lanes.specs.Keys.{InRange}
use Rattle.rules.specs.File.{Account, account_of}
use Rattle.rules.specs.declared.Layout.{Layout}
use Rattle.rules.specs.declared.Position.{Position}

-- The ranges that keys and ranks rest on.
pub record Ranged (a : Account) : Type 0 where
  pub rows_most : a.positions ≤ 256
  pub series_most : (r : ℕ) → r < a.positions → (a.position_at r).series ≤ 32
  pub pe_most : (r : ℕ) → r < a.positions → (a.position_at r).terms.pe ≤ 10_000_000

pub row_range : (a : Account) → Ranged a → (r : ℕ) → r < a.positions → InRange (a.position_at r)
row_range a ok r l = record { series_most = ok.series_most r l; pe_most = ok.pe_most r l }

module _ (b : List ℕ) (l : Layout) (ok : Known b l) where
  pub ranged : Ranged (account_of b l)
  ranged =
      record {
        rows_most = ok.placed.positions_most;
        series_most = λ r h. omega (arith, (position_within b l ok r h).series_below, ok.placed.series_most);
        pe_most = λ r h. (position_within b l ok r h).pe_most;
      }

  -- A row as the code read it.
  pub in_range : (i : ℕ) (p : Position) → i < l.positions → p ≡ (account_of b l).position_at i → InRange p
  in_range i p h e = rw e (row_range (account_of b l) ranged i h)
