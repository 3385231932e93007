-- What an accepted file says of its rows.
-- Assumes nothing.
use Prim.Native.Nat.{ℕ, ◌≤◌, ◌<◌}
use mathlib.Core.List.{List}
use mathlib.Core.Path.{◌≡◌}
use mathlib.Core.Bool.{true}
use native.Mathlib.Omega.{arith}
use Rattle.account.proofs.KnownRows.{position_within, row_series}
use Rattle.account.specs.Known.{Known}
use Rattle.rules.proofs.Bounds.{unit_most}
use Rattle.rules.proofs.MayPair.{may_pairable}
use Rattle.rules.specs.File.{account_of, position_row, series_of_row, series_row}
use Rattle.rules.specs.Limits.{PositionWithin}
use Rattle.rules.specs.Lines.{spread_unit}
use Rattle.rules.specs.Pairs.{may_of}
use Rattle.rules.specs.Spreads.{unit_spread}
use Rattle.rules.specs.declared.Layout.{Layout}
use Rattle.rules.specs.declared.PositionRow.{PositionRow}

module _ (b : List ℕ) (l : Layout) (ok : Known b l) where
  pub row_within : (i : ℕ) → i < l.positions
      → PositionWithin l.series (series_row b l (position_row b l i).series) (position_row b l i)
  row_within = position_within b l ok

  pub row_range : (i : ℕ) (row : PositionRow) → i < l.positions → row ≡ position_row b l i
      → PositionWithin l.series (series_row b l row.series) row
  row_range i row h e = rw e (row_within i h)

  -- The spread's unit of a pair that may be made is below the written unit margin.
  pub spread_most : (w h : ℕ) → w < l.positions → may_of (account_of b l) w h ≡ true
      → spread_unit (unit_spread (series_of_row (account_of b l) w) ((account_of b l).position_at h) ((account_of b l).position_at w)) ≤ 100_000_000_000_000
  spread_most w h lw e =
      let p = may_pairable (account_of b l) w h e in
      rw p.spread_is (omega (arith, p.spread_less, unit_most (row_series b l ok w lw) (row_within w lw)))

  pub factor_most : (w : ℕ) → w < l.positions → (series_row b l (position_row b l w).series).m ≤ 1_000
  factor_most w lw = (row_series b l ok w lw).m_most
