-- The file after a day, of any bytes with rows that stand within it: byte for byte, and row for row.
-- Assumes nothing.
use Prim.Native.Nat.{ℕ, ◌+◌, ◌*◌, ◌-◌, ◌≤◌, ◌<◌}
use mathlib.Core.Bool.{Bool, true, false, cond}
use mathlib.Core.List.{List, [], ◌∷◌}
use mathlib.Core.Logic.{◌⊎◌, inl, inr}
use mathlib.Core.Path.{◌≡◌, refl, sym, ◌∙◌, ap, subst}
use native.Mathlib.Numerals.{add-one}
use native.Mathlib.Omega.{arith}
use borrow.Author.Tests.{ne_eqb}
use lib.Dec.{eqb}
use lib.ListN.{get_or, length, set}
use lib.Seq.{length-sets}
use Rattle.rules.proofs.Fields.{position_row_flags, series_row_pv, u32_same, u32_stored, with_flags, with_pv}
use Rattle.rules.proofs.Stores.{Agree, Off, cell_apart, column_beside, column_in, column_off, in_row, length-stores, place_or_none, row_before, sets_off}
use Rattle.rules.proofs.Tests.{lt_or_ge}
use Rattle.rules.specs.Day.{Untouched, day_written, flags_after, flags_crossed, flags_place, flags_written, pv_place}
use Rattle.rules.specs.File.{barrier_of, position_row, series_row, series_width, u32_at}
use Rattle.rules.specs.Limits.{Placed}
use Rattle.rules.specs.Writing.{bytes4, stores}
use Rattle.rules.specs.declared.Day.{Day}
use Rattle.rules.specs.declared.Layout.{Layout}
use Rattle.rules.specs.declared.PositionRow.{PositionRow}

-- A row's flags after the day, by whether it is of the day's series.
module _ (d : Day) (r : PositionRow) where
  pub flags_other : eqb r.series d.series ≡ false → flags_after d r ≡ r.flags
  unfolding flags_after
  flags_other e = ap (λ (t : Bool). cond t (flags_crossed d (barrier_of r.kind r.price) r.flags) r.flags) e

  pub flags_own : eqb r.series d.series ≡ true → flags_after d r ≡ flags_crossed d (barrier_of r.kind r.price) r.flags
  unfolding flags_after
  flags_own e = ap (λ (t : Bool). cond t (flags_crossed d (barrier_of r.kind r.price) r.flags) r.flags) e

module _ (b : List ℕ) (l : Layout) (d : Day) (placed : Placed b l) where
  -- The flags are byte 4 of each row.
  abbrev new_flags : ℕ → ℕ
  new_flags r = flags_after d (position_row b l r)

  inside : 4 < l.width
  inside = omega (arith, placed.width_is)

  pub flags_length : (n : ℕ) → length (flags_written b l d n) ≡ length b
  flags_length n = length-stores (flags_place l) (λ r. new_flags r ∷ []) n b

  flags_off : (n j : ℕ) → ((r : ℕ) → r < n → j ≡ flags_place l r → ⊥) → get_or (flags_written b l d n) j 0 ≡ get_or b j 0
  flags_off n j none = column_off l.width l.positionsStart 4 inside new_flags n b j none

  -- A row but for its flags, and the whole row where its flags are not written yet, is as before.
  flags_row : (n r : ℕ) → position_row (flags_written b l d n) l r ≡ with_flags (get_or (flags_written b l d n) (flags_place l r) 0) (position_row b l r)
  unfolding position_row
  flags_row n r =
      let at : ℕ = l.positionsStart + l.width * r in
      let beside = column_beside l.width l.positionsStart 4 inside new_flags n b r in
      position_row_flags (flags_written b l d n) b at
      (λ j p q. beside j p (omega (arith, placed.width_is)) (λ e. omega arith))
      (λ j p q. beside j (omega arith) (omega (arith, placed.width_is)) (λ e. omega arith))

  pub flags_pending : (n : ℕ) → position_row (flags_written b l d n) l n ≡ position_row b l n
  unfolding position_row
  flags_pending n =
      flags_row n n
      ∙ ap (λ (f : ℕ). with_flags f (position_row b l n))
      (flags_off n (flags_place l n) (λ r h e. omega (arith, placed.width_is, row_before l.width r n h)))

  -- No row, and one more row.
  pub flags_none : b ≡ flags_written b l d 0
  unfolding stores
  flags_none = refl

  pub flags_next : (n : ℕ) → set (flags_written b l d n) (flags_place l n) (new_flags n) ≡ flags_written b l d (n + 1)
  unfolding stores
  flags_next n = rw (add-one n) refl

  -- A position row ends before the trailer.
  pub rows_end : (r : ℕ) → r < l.positions → l.positionsStart + l.width * r + l.width + 12 ≤ length b
  rows_end r h =
      let e : l.width * l.positions ≡ 32 * l.positions = ap (λ (w : ℕ). w * l.positions) placed.width_is in
      omega (arith, placed.room, row_before l.width r l.positions h)

  pub day_length : length (day_written b l d) ≡ length b
  unfolding day_written
  day_length =
      length-sets (flags_written b l d l.positions) (pv_place l d.series) (bytes4 d.close)
      ∙ flags_length l.positions

  day_off : (j : ℕ) → ((r : ℕ) → r < l.positions → j ≡ flags_place l r → ⊥) → Off (pv_place l d.series) (bytes4 d.close) j → get_or (day_written b l d) j 0 ≡ get_or b j 0
  unfolding day_written
  day_off j none off =
      sets_off (bytes4 d.close) (flags_written b l d l.positions) (pv_place l d.series) j off
      ∙ flags_off l.positions j none

  -- A byte of the series rows is no row's flags.
  no_flags : (j : ℕ) → j < l.positionsStart → (r : ℕ) → r < l.positions → j ≡ flags_place l r → ⊥
  no_flags j h r m e = omega arith

  module _ (there : d.series < l.series) where
    -- The PV ends before the position rows begin.
    before_rows : pv_place l d.series + 4 ≤ l.positionsStart
    before_rows = omega (arith, placed.positions_start_is)

    -- The PV leaves the position rows as they are.
    day_rows : (j : ℕ) → l.positionsStart ≤ j → get_or (day_written b l d) j 0 ≡ get_or (flags_written b l d l.positions) j 0
    unfolding day_written
    day_rows j h =
        sets_off (bytes4 d.close) (flags_written b l d l.positions) (pv_place l d.series) j
        (inr (omega (arith, before_rows)))

    pub day_flags : (r : ℕ) → r < l.positions → get_or (day_written b l d) (flags_place l r) 0 ≡ new_flags r
    day_flags r h =
        day_rows (flags_place l r) (omega arith)
        ∙ column_in l.width l.positionsStart 4 inside new_flags l.positions b r h (omega (arith, rows_end r h))

    day_pv : d.close < 4_294_967_296 → u32_at (day_written b l d) (pv_place l d.series) ≡ d.close
    unfolding day_written
    day_pv h =
        u32_stored (flags_written b l d l.positions) (pv_place l d.series) d.close
        (rw flags_length (omega (arith, before_rows, placed.room))) h

    -- "Only flags of that series and its PV are written": a byte that is neither stays as it is.
    pub only_written : (j : ℕ) → Untouched b l d j → get_or (day_written b l d) j 0 ≡ get_or b j 0
    unfolding position_row
    only_written j neither = go (place_or_none (flags_place l) l.positions j)
      where
        pv_off : Off (pv_place l d.series) (bytes4 d.close) j
        pv_off = by (lt_or_ge j (pv_place l d.series)) (lt_or_ge j (pv_place l d.series + 4))
          where
            by : (j < pv_place l d.series) ⊎ (pv_place l d.series ≤ j) → (j < pv_place l d.series + 4) ⊎ (pv_place l d.series + 4 ≤ j)
                → Off (pv_place l d.series) (bytes4 d.close) j
            by (inl x) y = inl x
            by (inr x) (inr y) = inr y
            by (inr x) (inl y) = absurd (neither.1 (j - pv_place l d.series) (omega arith) (omega arith))

        other : (r : ℕ) → r < l.positions → j ≡ flags_place l r → get_or (day_written b l d) (flags_place l r) 0 ≡ get_or b (flags_place l r) 0
        other r h e =
            day_flags r h
            ∙ flags_other d (position_row b l r) (ne_eqb (position_row b l r).series d.series (λ q. neither.0 r h q e))

        go : ((r : ℕ) × (r < l.positions) × (j ≡ flags_place l r)) ⊎ ((r : ℕ) → r < l.positions → j ≡ flags_place l r → ⊥) → get_or (day_written b l d) j 0 ≡ get_or b j 0
        go (inl (r, h, e)) = rw e (other r h e)
        go (inr none) = day_off j none pv_off

    -- What is not written: the cover sheet, the bytes before and after the PV, the flags of another series' row, and every other
    -- byte of a position row.
    pub untouched_cover : (j : ℕ) → j < l.seriesStart → Untouched b l d j
    untouched_cover j h = (λ r m q e. omega (arith, before_rows), λ k m e. omega arith)

    pub untouched_beside_pv : ((j : ℕ) → j + 1 ≡ pv_place l d.series → Untouched b l d j) × Untouched b l d (pv_place l d.series + 4)
    untouched_beside_pv =
        (λ j e. (λ r h q at. omega (arith, before_rows), λ k h at. omega arith), (λ r h q at. omega (arith, before_rows), λ k h at. omega arith))

    pub untouched_flags : (r : ℕ) → r < l.positions → ((position_row b l r).series ≡ d.series → ⊥) → Untouched b l d (flags_place l r)
    untouched_flags r h other =
        (λ m k q e. other (subst (λ (x : ℕ). (position_row b l x).series ≡ d.series) (sym (cell_apart l.width l.positionsStart r m 4 4 inside inside e).0) q), λ k m e. omega (arith, before_rows))

    pub untouched_row : (r j : ℕ) → l.positionsStart + l.width * r ≤ j → j < l.positionsStart + l.width * r + l.width → (j ≡ flags_place l r → ⊥) → Untouched b l d j
    untouched_row r j least less other =
        (λ m k q e. other (in_row l.width l.positionsStart 4 inside r m j least less e), λ k m e. omega (arith, before_rows))

    -- What follows the rows.
    pub trailer_same : Agree (day_written b l d) b (length b - 12) (length b)
    trailer_same j h k =
        day_off j (λ r m e. omega (arith, placed.width_is, placed.room, rows_end r m)) (inr (omega (arith, before_rows, placed.room)))

    -- Rows.
    pub row_after : (r : ℕ) → r < l.positions → position_row (day_written b l d) l r ≡ with_flags (new_flags r) (position_row b l r)
    unfolding position_row
    row_after r h =
        let at : ℕ = l.positionsStart + l.width * r in
        let beside = column_beside l.width l.positionsStart 4 inside new_flags l.positions b r in
        position_row_flags (day_written b l d) b at
        (λ j p q. day_rows j (omega arith) ∙ beside j p (omega (arith, placed.width_is)) (λ e. omega arith))
        (λ j p q. day_rows j (omega arith) ∙ beside j (omega arith) (omega (arith, placed.width_is)) (λ e. omega arith))
        ∙ ap (λ (f : ℕ). with_flags f (position_row b l r)) (day_flags r h)

    pub series_day : d.close < 4_294_967_296 → series_row (day_written b l d) l d.series ≡ with_pv d.close (series_row b l d.series)
    unfolding series_row
    series_day h =
        let at : ℕ = l.seriesStart + series_width * d.series in
        series_row_pv (day_written b l d) b at
        (λ j p q. day_off j (no_flags j (omega (arith, placed.positions_start_is))) (inr (omega arith)))
        ∙ ap (λ (v : ℕ). with_pv v (series_row b l d.series)) (day_pv h)

    pub series_other : (i : ℕ) → i < l.series → (i ≡ d.series → ⊥) → series_row (day_written b l d) l i ≡ series_row b l i
    unfolding series_row
    series_other i h n =
        let at : ℕ = l.seriesStart + series_width * i in
        let a : Agree (day_written b l d) b at (at + 24) = λ j p q. day_off j (no_flags j (omega (arith, placed.positions_start_is))) (apart j p q (lt_or_ge i d.series)) in
        series_row_pv (day_written b l d) b at (λ j p q. a j (omega arith) q)
        ∙ ap (λ (v : ℕ). with_pv v (series_row b l i)) (u32_same (day_written b l d) b at (at + 24) a at (omega arith) (omega arith))
      where
        apart : (j : ℕ) → l.seriesStart + series_width * i ≤ j → j < l.seriesStart + series_width * i + 24 → (i < d.series) ⊎ (d.series ≤ i) → Off (pv_place l d.series) (bytes4 d.close) j
        apart j p q (inl less) = inl (omega arith)
        apart j p q (inr more) = inr (omega (arith, n))
