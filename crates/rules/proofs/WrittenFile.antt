-- A file made of rows within their limits is within its own, so that it is accepted, and reads back as those rows.
-- Assumes nothing.
use Prim.Native.Nat.{ℕ, zero, suc, ◌+◌, ◌*◌, ◌-◌, ◌≤◌, ◌<◌}
use mathlib.Core.List.{List, ◌++◌}
use mathlib.Core.Logic.{◌⊎◌, inl, inr}
use mathlib.Core.Path.{◌≡◌, refl, sym, ◌∙◌, ap, subst}
use native.Mathlib.Nat.{eq-or-lt_of_le, le_of_suc-le-suc, mul-suc, not-suc-le-zero}
use native.Mathlib.Omega.{arith}
use lib.ListN.{get_or-append, get_or, length, length-append}
use lib.Seq.{get_or-append-add}
use Rattle.rules.proofs.Stores.{row_before}
use Rattle.rules.proofs.WrittenRows.{Holds, position_fits, position_held, series_held, u16_held, u32_held}
use Rattle.rules.specs.File.{distance, layout, position_count, position_row, position_row_from, position_width, series_count, series_row, series_row_from, span, trailer_spare, u16_at, u32_at}
use Rattle.rules.specs.Limits.{FileWithin, PositionWithin, SeriesWithin, TrailerWithin, most_positions, most_series}
use Rattle.rules.specs.Writing.{bytes_of_file, bytes_of_position, bytes_of_rows, bytes_of_series, bytes_of_trailer}
use Rattle.rules.specs.declared.Layout.{Layout}
use Rattle.rules.specs.declared.PositionRow.{PositionRow}
use Rattle.rules.specs.declared.SeriesRow.{SeriesRow}

-- ---- bytes held by a longer file

-- More bytes after it.
holds_before : (c ys vs : List ℕ) (m : ℕ) → Holds c m vs → m + length vs ≤ length c → Holds (c ++ ys) m vs
holds_before c ys vs m h fits j l = get_or-append c ys 0 (m + j) (omega arith) ∙ h j l

-- More bytes before it.
holds_after : (xs vs : List ℕ) (m : ℕ) → length xs ≡ m → Holds (xs ++ vs) m vs
holds_after xs vs m size j l =
    ap (λ (n : ℕ). get_or (xs ++ vs) (n + j) 0) (sym size) ∙ get_or-append-add xs vs j 0

holds_shifted : (xs c vs : List ℕ) (m n : ℕ) → length xs ≡ n → Holds c m vs → Holds (xs ++ c) (n + m) vs
holds_shifted xs c vs m n size h j l =
    let place : n + m + j ≡ length xs + (m + j) = omega arith in
    rw place (get_or-append-add xs c (m + j) 0 ∙ h j l)

-- ---- a table of rows, each of w bytes

module _ (w : ℕ) (row : ℕ → List ℕ) (wide : (i : ℕ) → length (row i) ≡ w) where
  pub rows_length : (n : ℕ) → length (bytes_of_rows row n) ≡ w * n
  unfolding bytes_of_rows
  rows_length zero = omega arith
  rows_length (suc n) =
      length-append (bytes_of_rows row n) (row n) ∙ omega (arith, rows_length n, wide n, mul-suc w n)

  row_held : (n i : ℕ) → i < n → Holds (bytes_of_rows row n) (w * i) (row i)
  unfolding bytes_of_rows
  row_held zero i h = absurd (not-suc-le-zero h)
  row_held (suc n) i h = go (row_held n i) (eq-or-lt_of_le (le_of_suc-le-suc h))
    where
      go : (i < n → Holds (bytes_of_rows row n) (w * i) (row i)) → (i ≡ n) ⊎ (i < n) → Holds (bytes_of_rows row n ++ row n) (w * i) (row i)
      go earlier (inl e) =
          subst (λ (x : ℕ). Holds (bytes_of_rows row n ++ row n) (w * x) (row x)) (sym e)
          (holds_after (bytes_of_rows row n) (row n) (w * n) (rows_length n))
      go earlier (inr l) =
          holds_before (bytes_of_rows row n) (row n) (row i) (w * i) (earlier l)
          (omega (arith, wide i, rows_length n, row_before w i n l))

pub series_length : (r : SeriesRow) → length (bytes_of_series r) ≡ 24
unfolding bytes_of_series
series_length r = refl

pub position_length : (r : PositionRow) → length (bytes_of_position r) ≡ 32
unfolding bytes_of_position
position_length r = refl

trailer_length : (s p : ℕ) → length (bytes_of_trailer s p) ≡ 12
unfolding bytes_of_trailer
trailer_length s p = refl

-- ---- the file

module _ (s : ℕ) (series : ℕ → SeriesRow) (p : ℕ) (positions : ℕ → PositionRow) where
  abbrev series_part : List ℕ
  series_part = bytes_of_rows (λ i. bytes_of_series (series i)) s

  abbrev positions_part : List ℕ
  positions_part = bytes_of_rows (λ r. bytes_of_position (positions r)) p

  abbrev file : List ℕ
  file = bytes_of_file s series p positions

  series_part_length : length series_part ≡ 24 * s
  series_part_length = rows_length 24 (λ i. bytes_of_series (series i)) (λ i. series_length (series i)) s

  positions_part_length : length positions_part ≡ 32 * p
  positions_part_length = rows_length 32 (λ r. bytes_of_position (positions r)) (λ r. position_length (positions r)) p

  rows_part_length : length (series_part ++ positions_part) ≡ 24 * s + 32 * p
  rows_part_length =
      length-append series_part positions_part ∙ omega (arith, series_part_length, positions_part_length)

  pub file_length : length file ≡ span s p
  unfolding bytes_of_file
  file_length =
      length-append (series_part ++ positions_part) (bytes_of_trailer s p) ∙ omega (arith, rows_part_length, trailer_length s p)

  series_bytes_lem : (i : ℕ) → i < s → Holds file (24 * i) (bytes_of_series (series i))
  unfolding bytes_of_file
  series_bytes_lem i h =
      let ends = row_before 24 i s h in
      let size = series_length (series i) in
      holds_before (series_part ++ positions_part) (bytes_of_trailer s p) (bytes_of_series (series i)) (24 * i)
      (holds_before series_part positions_part (bytes_of_series (series i)) (24 * i)
      (row_held 24 (λ k. bytes_of_series (series k)) (λ k. series_length (series k)) s i h)
      (omega (arith, series_part_length)))
      (omega (arith, rows_part_length))

  position_bytes_lem : (r : ℕ) → r < p → Holds file (24 * s + 32 * r) (bytes_of_position (positions r))
  unfolding bytes_of_file
  position_bytes_lem r h =
      let ends = row_before 32 r p h in
      let size = position_length (positions r) in
      holds_before (series_part ++ positions_part) (bytes_of_trailer s p) (bytes_of_position (positions r)) (24 * s + 32 * r)
      (holds_shifted series_part positions_part (bytes_of_position (positions r)) (32 * r) (24 * s) series_part_length
      (row_held 32 (λ k. bytes_of_position (positions k)) (λ k. position_length (positions k)) p r h))
      (omega (arith, rows_part_length))

  trailer_bytes_lem : Holds file (24 * s + 32 * p) (bytes_of_trailer s p)
  unfolding bytes_of_file
  trailer_bytes_lem = holds_after (series_part ++ positions_part) (bytes_of_trailer s p) (24 * s + 32 * p) rows_part_length

  module _ (some : 1 ≤ s) (few : s ≤ most_series) (most : p ≤ most_positions) where
    abbrev end : ℕ
    end = 24 * s + 32 * p

    pub series_count_is : series_count file ≡ s
    unfolding bytes_of_trailer
    series_count_is =
        let place : length file - 12 ≡ end + 0 = omega (arith, file_length) in
        ap (u16_at file) place ∙ u16_held file (bytes_of_trailer s p) end trailer_bytes_lem 0 s (omega arith) refl refl (omega arith)

    pub position_count_is : position_count file ≡ p
    unfolding bytes_of_trailer
    position_count_is =
        let place : length file - 10 ≡ end + 2 = omega (arith, file_length) in
        ap (u16_at file) place ∙ u16_held file (bytes_of_trailer s p) end trailer_bytes_lem 2 p (omega arith) refl refl (omega arith)

    distance_is : distance file ≡ span s p
    unfolding bytes_of_trailer
    distance_is =
        let place : length file - 8 ≡ end + 4 = omega (arith, file_length) in
        ap (u32_at file) place ∙ u32_held file (bytes_of_trailer s p) end trailer_bytes_lem 4 (span s p) (omega arith) refl refl refl refl (omega arith)

    spare_is : trailer_spare file ≡ 0
    unfolding bytes_of_trailer
    spare_is =
        let place : length file - 4 ≡ end + 8 = omega (arith, file_length) in
        ap (u32_at file) place ∙ u32_held file (bytes_of_trailer s p) end trailer_bytes_lem 8 0 (omega arith) refl refl refl refl (omega arith)

    trailer_within : TrailerWithin file
    trailer_within =
        record {
          size_least = omega (arith, file_length);
          size_most = omega (arith, file_length);
          series_least = rw series_count_is some;
          series_most = rw series_count_is few;
          positions_most = rw position_count_is most;
          distance_is = rw (distance_is, series_count_is, position_count_is);
          distance_most = omega (arith, file_length, distance_is);
          spare_zero = spare_is;
        }

    pub layout_is : layout file ≡ record { series = s; positions = p; seriesStart = 0; positionsStart = 24 * s; width = position_width }
    unfolding layout
    layout_is =
        let start : length file - distance file ≡ 0 = omega (arith, file_length, distance_is) in
        let after : 0 + 24 * s ≡ 24 * s = omega arith in
        rw (start, series_count_is, position_count_is, after)

    module _ (series-fit : (i : ℕ) → i < s → SeriesWithin (series i)) where
      pub series_row_is : (i : ℕ) → i < s → series_row file (layout file) i ≡ series i
      unfolding series_row
      series_row_is i h =
          let start : (layout file).seriesStart + 24 * i ≡ 24 * i = omega (arith, ap (λ (l : Layout). l.seriesStart) layout_is) in
          ap (series_row_from file) start ∙ series_held file (24 * i) (series i) (series-fit i h) (series_bytes_lem i h)

      module _ (positions-fit : (r : ℕ) → r < p → PositionWithin s (series (positions r).series) (positions r)) where
        pub position_row_is : (r : ℕ) → r < p → position_row file (layout file) r ≡ positions r
        unfolding position_row
        position_row_is r h =
            let start = ap (λ (l : Layout). l.positionsStart + l.width * r) layout_is in
            let within = positions-fit r h in
            ap (position_row_from file) start
            ∙ position_held file (24 * s + 32 * r) (positions r)
            (position_fits s (series (positions r).series) (positions r) few (series-fit (positions r).series within.series_below) within)
            (position_bytes_lem r h)

        -- So that it is accepted (`Reading.within_accepted`).
        pub file_within : FileWithin file
        file_within =
            record {
              trailer = trailer_within;
              series_rows_lem = λ i h. rw (series_row_is i (rw series_count_is at h)) (series-fit i (rw series_count_is at h));
              position_rows_lem = λ r h. position r (rw position_count_is at h);
            }
          where
            position : (r : ℕ) → r < p → PositionWithin (series_count file) (series_row file (layout file) (position_row file (layout file) r).series) (position_row file (layout file) r)
            position r h =
                rw (position_row_is r h, series_count_is, series_row_is (positions r).series (positions-fit r h).series_below)
                (positions-fit r h)
