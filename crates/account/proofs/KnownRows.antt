-- The rows of an accepted file: where they stand, and that each is within its limits.
-- Assumes nothing.
use Prim.Native.Nat.{ℕ, ◌<◌}
use mathlib.Core.List.{List}
use mathlib.Core.Path.{◌≡◌, sym, subst}
use Rattle.rules.proofs.Reading.{read_within}
use Rattle.rules.proofs.TrailerLimits as TrailerLimits
use Rattle.rules.specs.File.{account_of, layout, position_row, series_row}
use Rattle.rules.specs.Limits.{Placed, PositionWithin, SeriesWithin}
use Rattle.rules.specs.Refusals.{file_read}
use Rattle.rules.specs.declared.Layout.{Layout}
use Rattle.rules.specs.declared.Position.{Position}
use Rattle.account.specs.Known.{Known}
use Rattle.std.specs.Prelude.{Ok}

pub known : (b : List ℕ) (l : Layout) → file_read b ≡ Ok l → Known b l
known b l e =
    let h = read_within b l e in
    record {
      within = h.0;
      layout_is = h.1;
      placed = subst (Placed b) (sym h.1) (TrailerLimits.placed b h.0.trailer);
    }

module _ (b : List ℕ) (l : Layout) (k : Known b l) where
  pub series_within : (i : ℕ) → i < l.series → SeriesWithin (series_row b l i)
  unfolding layout
  series_within =
      subst (λ (x : Layout). (i : ℕ) → i < x.series → SeriesWithin (series_row b x i)) (sym k.layout_is) own
    where
      own : (i : ℕ) → i < (layout b).series → SeriesWithin (series_row b (layout b) i)
      own i h = k.within.series_rows_lem i h

  pub position_within : (i : ℕ) → i < l.positions → PositionWithin l.series (series_row b l (position_row b l i).series) (position_row b l i)
  unfolding layout
  position_within =
      subst (λ (x : Layout). (i : ℕ) → i < x.positions → PositionWithin x.series (series_row b x (position_row b x i).series) (position_row b x i)) (sym k.layout_is) own
    where
      own : (i : ℕ) → i < (layout b).positions → PositionWithin (layout b).series (series_row b (layout b) (position_row b (layout b) i).series) (position_row b (layout b) i)
      own i h = k.within.position_rows_lem i h

  pub series_below : (i : ℕ) → i < l.positions → (position_row b l i).series < l.series
  series_below i h = (position_within i h).series_below

  -- The same of a position as it was read.
  pub read_series_below : (i : ℕ) → i < l.positions → (p : Position) → p ≡ (account_of b l).position_at i → p.series < l.series
  read_series_below i h p e = subst (λ (q : Position). q.series < l.series) (sym e) (series_below i h)

  pub row_series : (i : ℕ) → i < l.positions → SeriesWithin (series_row b l (position_row b l i).series)
  row_series i h = series_within (position_row b l i).series (series_below i h)
