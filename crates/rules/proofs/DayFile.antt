-- A file within its limits after a day within its own: the trailer and where the rows stand are the same, the rows are as the
-- day leaves them, and the file is within its limits again. Written again, the day alters no byte.
-- Assumes nothing.
use Prim.Native.Nat.{ℕ, zero, suc, ◌+◌, ◌-◌, ◌<◌}
use mathlib.Core.Bool.{Bool, true, false, cond}
use mathlib.Core.List.{List, [], ◌∷◌}
use mathlib.Core.Path.{◌≡◌, refl, sym, ◌∙◌, ap, ap₂, subst}
use native.Mathlib.Nat.{le_of_suc-le-suc, not-suc-le-zero}
use native.Mathlib.Omega.{arith}
use borrow.Author.Tests.{eqb-false, eqb-true}
use lib.Dec.{eqb}
use lib.ListN.{get_or, length}
use Rattle.rules.proofs.DayLaws.{day_flags, day_length, flags_length, flags_other, flags_own, row_after, series_day, series_other, trailer_same}
use Rattle.rules.proofs.DayRows.{flags_again, flags_are, pv_within, row_within}
use Rattle.rules.proofs.Fields.{distance_same, layout_same, position_count_same, series_count_same, trailer_spare_same, with_flags, with_pv}
use Rattle.rules.proofs.Stores.{Agree, sets_again, sets_in, stores_again}
use Rattle.rules.proofs.Tests.{cond_case}
use Rattle.rules.proofs.TrailerLimits.{placed}
use Rattle.rules.specs.Day.{After, DayWithin, day_written, flags_after, flags_of_day, flags_place, flags_written, position_after, pv_place, series_after}
use Rattle.rules.specs.File.{account_of, barrier_of, flags_of, layout, limiter_of, position_count, position_of, position_row, series_count, series_of, series_row, side_of}
use Rattle.rules.specs.Limits.{FileWithin, Placed, PositionWithin, SeriesWithin, TrailerWithin}
use Rattle.rules.specs.Writing.{bytes4}
use Rattle.rules.specs.declared.Day.{Day}
use Rattle.rules.specs.declared.Flags.{Flags}
use Rattle.rules.specs.declared.Layout.{Layout}
use Rattle.rules.specs.declared.Position.{Position}
use Rattle.rules.specs.declared.PositionRow.{PositionRow}
use Rattle.rules.specs.declared.SeriesRow.{SeriesRow}

module _ (b : List ℕ) (d : Day) (w : FileWithin b) (v : DayWithin (series_count b) d) where
  abbrev after : List ℕ
  after = day_written b (layout b) d

  stands : Placed b (layout b)
  stands = placed b w.trailer

  there : d.series < (layout b).series
  unfolding layout
  there = v.series_below

  size : length after ≡ length b
  size = day_length b (layout b) d stands

  tail : Agree after b (length b - 12) (length b)
  tail = trailer_same b (layout b) d stands there

  small : d.close < 4_294_967_296
  small = omega (arith, v.close_most, v.high_most)

  pub same_layout : layout after ≡ layout b
  same_layout = layout_same after b size w.trailer.size_least tail

  same_series : series_count after ≡ series_count b
  same_series = series_count_same after b size w.trailer.size_least tail

  same_positions : position_count after ≡ position_count b
  same_positions = position_count_same after b size w.trailer.size_least tail

  trailer_kept : TrailerWithin after
  trailer_kept =
      let t = w.trailer in
      let far = distance_same after b size w.trailer.size_least tail in
      let spare = trailer_spare_same after b size w.trailer.size_least tail in
      record {
        size_least = rw size t.size_least;
        size_most = rw size t.size_most;
        series_least = rw same_series t.series_least;
        series_most = rw same_series t.series_most;
        positions_most = rw same_positions t.positions_most;
        distance_is = rw (far, same_series, same_positions) t.distance_is;
        distance_most = rw (far, size) t.distance_most;
        spare_zero = spare ∙ t.spare_zero;
      }

  -- "PV becomes the close", of that series alone.
  series_after_lem : (i : ℕ) → i < series_count b → (t : Bool) → eqb i d.series ≡ t → series_row after (layout b) i ≡ cond t (with_pv d.close (series_row b (layout b) i)) (series_row b (layout b) i)
  unfolding layout
  series_after_lem i h true e =
      let q = eqb-true i d.series e in
      subst (λ (x : ℕ). series_row after (layout b) x ≡ with_pv d.close (series_row b (layout b) x)) (sym q)
      (series_day b (layout b) d stands there small)
  series_after_lem i h false e = series_other b (layout b) d stands there i h (eqb-false i d.series e)

  series_kept : (i : ℕ) → i < series_count b → SeriesWithin (series_row after (layout b) i)
  series_kept i h =
      rw (series_after_lem i h (eqb i d.series) refl)
      (cond_case SeriesWithin (eqb i d.series) _ _
      (λ t. pv_within (series_row b (layout b) i) d.close (omega (arith, v.low_least, v.close_least)) (omega (arith, v.close_most, v.high_most)) (w.series_rows_lem i h))
      (λ t. w.series_rows_lem i h))

  -- The flags of that series alone.
  position_after_lem : (i : ℕ) → i < position_count b → position_row after (layout b) i ≡ with_flags (flags_after d (position_row b (layout b) i)) (position_row b (layout b) i)
  unfolding layout
  position_after_lem i h = row_after b (layout b) d stands there i h

  by_series : (r : PositionRow) (k : SeriesRow) → PositionWithin (series_count b) k r → (t : Bool) → eqb r.series d.series ≡ t → PositionWithin (series_count b) (cond t (with_pv d.close k) k) (with_flags (flags_after d r) r)
  by_series r k before true e =
      rw (flags_own d r e) (row_within (series_count b) k r before d (series_count b) v)
  by_series r k before false e = rw (flags_other d r e) before

  position_kept : (i : ℕ) → i < position_count b → PositionWithin (series_count b) (series_row after (layout b) (position_row after (layout b) i).series) (position_row after (layout b) i)
  position_kept i h =
      let row = position_row b (layout b) i in
      let before = w.position_rows_lem i h in
      rw (position_after_lem i h, series_after_lem row.series before.series_below (eqb row.series d.series) refl)
      (by_series row (series_row b (layout b) row.series) before (eqb row.series d.series) refl)

  pub day_within : FileWithin after
  day_within =
      record {
        trailer = trailer_kept;
        series_rows_lem = λ i h. rw same_layout (series_kept i (rw same_series at h));
        position_rows_lem = λ i h. rw (same_layout, same_series) (position_kept i (rw same_positions at h));
      }

  -- The account of the file after the day.
  series_told : (i : ℕ) → i < series_count b → series_of (series_row after (layout b) i) ≡ series_after d i (series_of (series_row b (layout b) i))
  series_told i h = go (eqb i d.series) (series_after_lem i h (eqb i d.series) refl)
    where
      go : (t : Bool) → series_row after (layout b) i ≡ cond t (with_pv d.close (series_row b (layout b) i)) (series_row b (layout b) i)
          → series_of (series_row after (layout b) i) ≡ record { pv = cond t d.close (series_row b (layout b) i).pv; fa = (series_row b (layout b) i).fa; fb = (series_row b (layout b) i).fb; f3 = (series_row b (layout b) i).f3; m = (series_row b (layout b) i).m; option = (series_of (series_row b (layout b) i)).option }
      go true e = ap series_of e
      go false e = ap series_of e

  flags_told : (r : PositionRow) → flags_of (flags_after d r) ≡ cond (eqb r.series d.series) (flags_of_day d (position_of r)) (flags_of r.flags)
  flags_told r = go (eqb r.series d.series) refl
    where
      go : (t : Bool) → eqb r.series d.series ≡ t → flags_of (flags_after d r) ≡ cond t (flags_of_day d (position_of r)) (flags_of r.flags)
      go true e = ap flags_of (flags_own d r e) ∙ flags_are d r
      go false e = ap flags_of (flags_other d r e)

  -- Flag 2, which says whether there is a limiter, stays in either case.
  limited_told : (r : PositionRow) → (flags_of (flags_after d r)).limited ≡ (flags_of r.flags).limited
  limited_told r =
      ap (λ (f : Flags). f.limited) (flags_told r)
      ∙ cond_case (λ (f : Flags). f.limited ≡ (flags_of r.flags).limited) (eqb r.series d.series) (flags_of_day d (position_of r)) (flags_of r.flags) (λ t. refl) (λ t. refl)

  row_told : (r : PositionRow) → position_of (with_flags (flags_after d r) r) ≡ position_after d (position_of r)
  row_told r = ap₂ whole (limited_told r) (flags_told r)
    where
      whole : Bool → Flags → Position
      whole limited flags =
          record {
            series = r.series;
            side = side_of r.side;
            terms = record { pe = r.pe; limiter = limiter_of limited r.pb; barrier = barrier_of r.kind r.price; reb = r.reb };
            flags = flags;
            q = r.q;
            blocked = r.blocked;
            premium = r.premium;
          }

  pub account_after : After d (account_of b (layout b)) (account_of after (layout after))
  unfolding layout
  account_after =
      record {
        series_same = same_series;
        series_are = λ i h. rw same_layout (series_told i h);
        positions_same = same_positions;
        positions_are = λ r h. rw same_layout (ap position_of (position_after_lem r h) ∙ row_told (position_row b (layout b) r));
      }

-- "The same day applied again alters no byte."
module _ (b : List ℕ) (d : Day) (l : Layout) (stands : Placed b l) (there : d.series < l.series) where
  abbrev written : List ℕ
  written = day_written b l d

  flags_stay : flags_written written l d l.positions ≡ written
  flags_stay =
      stores_again (flags_place l) (λ r. flags_after d (position_row written l r) ∷ []) l.positions written row
    where
      row : (i : ℕ) → i < l.positions → (k : ℕ) → k < 1 → get_or written (flags_place l i + k) 0 ≡ get_or (flags_after d (position_row written l i) ∷ []) k 0
      row i h zero g =
          let here : flags_place l i + 0 ≡ flags_place l i = omega arith in
          rw here (day_flags b l d stands there i h ∙ sym (ap (flags_after d) (row_after b l d stands there i h) ∙ flags_again d (position_row b l i)))
      row i h (suc k) g = absurd (not-suc-le-zero (le_of_suc-le-suc g))

  pv_stays : (k : ℕ) → k < 4 → get_or written (pv_place l d.series + k) 0 ≡ get_or (bytes4 d.close) k 0
  unfolding day_written
  pv_stays k h =
      sets_in (bytes4 d.close) (flags_written b l d l.positions) (pv_place l d.series) k h
      (rw (flags_length b l d stands l.positions) (omega (arith, stands.positions_start_is, stands.room)))

  pub written_again : day_written written l d ≡ written
  unfolding day_written
  written_again = rw flags_stay (sets_again (bytes4 d.close) written (pv_place l d.series) pv_stays)
