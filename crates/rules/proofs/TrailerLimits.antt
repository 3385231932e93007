-- A trailer without fault is one within its limits, and the other way round; and then every row stands within the
-- file.
-- Assumes nothing.
use Prim.Native.Nat.{ℕ, ◌+◌, ◌*◌, ◌≤◌, ◌<◌}
use mathlib.Core.Bool.{not}
use mathlib.Core.List.{List}
use mathlib.Core.Path.{◌≡◌, refl, ap}
use native.Mathlib.Omega.{arith}
use borrow.Author.Tests.{eq-eqb, eqb-true, le-ltb, ltb-false, not-false}
use lib.Dec.{eqb, ltb}
use lib.ListN.{length}
use Rattle.rules.specs.File.{distance, layout, position_count, position_width, series_count, series_width, span, trailer_spare, trailer_width}
use Rattle.rules.specs.Limits.{Placed, TrailerWithin, most_bytes, most_positions, most_series}
use Rattle.rules.specs.Refusals.{clean, nonzero, outside, trailer_checks, trailer_fault}
use Rattle.rules.specs.declared.Layout.{Layout}
use Rattle.rules.proofs.Chain.{all_clean, all_pass, in_range, inside, is_zero, none_of_three, three_fail, zero_is}
use Rattle.rules.proofs.Tests.{both_fail, neither}

module _ (b : List ℕ) where
  pub trailer_within : trailer_fault b ≡ clean → TrailerWithin b
  unfolding trailer_fault
  trailer_within e =
      let passes = all_pass (trailer_checks b) e in
      let size = inside trailer_width most_bytes (length b) passes.0 in
      let counts = none_of_three (outside 1 most_series (series_count b)) (ltb most_positions (position_count b)) (nonzero (trailer_spare b)) passes.1.0 in
      let series = inside 1 most_series (series_count b) counts.0 in
      let far = neither (not (eqb (distance b) (span (series_count b) (position_count b)))) (ltb (length b) (distance b)) passes.1.1.0 in
      record {
        size_least = size.0;
        size_most = size.1;
        series_least = series.0;
        series_most = series.1;
        positions_most = ltb-false most_positions (position_count b) counts.1;
        distance_is = eqb-true (distance b) (span (series_count b) (position_count b)) (not-false (eqb (distance b) (span (series_count b) (position_count b))) far.0);
        distance_most = ltb-false (length b) (distance b) far.1;
        spare_zero = is_zero (trailer_spare b) counts.2;
      }

  pub trailer_clean : TrailerWithin b → trailer_fault b ≡ clean
  unfolding trailer_fault
  trailer_clean h =
      all_clean (trailer_checks b) (
        (in_range trailer_width most_bytes (length b) h.size_least h.size_most),
        (
          (three_fail (outside 1 most_series (series_count b)) (ltb most_positions (position_count b)) (nonzero (trailer_spare b))
              (in_range 1 most_series (series_count b) h.series_least h.series_most)
              (le-ltb most_positions (position_count b) h.positions_most)
              (zero_is (trailer_spare b) h.spare_zero)),
          (
            (both_fail (not (eqb (distance b) (span (series_count b) (position_count b)))) (ltb (length b) (distance b))
                (ap not (eq-eqb (distance b) (span (series_count b) (position_count b)) h.distance_is))
                (le-ltb (length b) (distance b) h.distance_most)),
            tt,
          ),
        ),
      )

  pub placed : TrailerWithin b → Placed b (layout b)
  unfolding layout
  placed h =
      let s : ℕ = series_count b in
      let p : ℕ = position_count b in
      let d : distance b ≡ span s p = h.distance_is in
      let m : distance b ≤ length b = h.distance_most in
      record {
        size_most = h.size_most;
        series_most = h.series_most;
        positions_most = h.positions_most;
        width_is = refl;
        positions_start_is = refl;
        room = omega arith;
      }

  -- What `Placed` grants who reads a row: small counts and a small file, series rows that end before the position rows,
  -- and position rows that end before the trailer.
  pub placed_rows : (l : Layout) → Placed b l
      → (length b ≤ most_bytes) × (l.series ≤ most_series) × (l.positions ≤ most_positions)
      × ((i : ℕ) → i < l.series → l.seriesStart + series_width * i + series_width ≤ l.positionsStart)
      × ((i : ℕ) → i < l.positions → l.positionsStart + position_width * i + position_width + trailer_width ≤ length b)
  placed_rows l p =
      (p.size_most, p.series_most, p.positions_most, (λ i h. omega (arith, p.positions_start_is)), (λ i h. omega (arith, p.room)))
