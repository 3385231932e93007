-- The file written part by part: the series row, the rows one after the other, the trailer.
-- Assumes nothing.
use Prim.Native.Nat.{ℕ, ◌+◌, ◌*◌, ◌≤◌, ◌<◌}
use mathlib.Core.List.{List, ◌++◌}
use mathlib.Core.Path.{◌≡◌, refl, sym, ◌∙◌, ap}
use native.Mathlib.Numerals.{add-one}
use native.Mathlib.Omega.{arith}
use lib.ListN.{drop, length, length-append}
use lib.Seq.{length-sets, sets}
use Rattle.load.specs.Load.{load_file, load_size, modulus, position_drawn, row_drawn, series_drawn, state_after, state_after_row, state_before}
use Rattle.load.specs.Rows.{RowAsked}
use Rattle.rules.proofs.Stores.{sets_front, stored_behind}
use Rattle.rules.proofs.WrittenFile.{file_length, position_length, rows_length, series_length}
use Rattle.rules.specs.Writing.{bytes_of_file, bytes_of_position, bytes_of_rows, bytes_of_series, bytes_of_trailer}
use Rattle.rules.specs.declared.PositionRow.{PositionRow}
use Rattle.rules.specs.declared.SeriesRow.{SeriesRow}

-- The bytes of the first r rows.
abbrev pub rows_drawn : ℕ → ℕ → List ℕ
rows_drawn seed r = bytes_of_rows (λ i. bytes_of_position (row_drawn seed i)) r

-- What is known when the first r of p rows have been written: b is the buffer with the series row, c the buffer now, t the state.
pub record Walked (seed p : ℕ) (b c : List ℕ) (t r : ℕ) : Type 0 where
  pub rows_most : r ≤ p
  pub state_is : t ≡ state_before seed r
  pub is_state : t < modulus
  pub written : c ≡ sets b 24 (rows_drawn seed r)

module _ (seed : ℕ) where
  rows_size : (r : ℕ) → length (rows_drawn seed r) ≡ 32 * r
  rows_size = rows_length 32 (λ i. bytes_of_position (row_drawn seed i)) (λ i. position_length (row_drawn seed i))

  pub load_length : (p : ℕ) → length (load_file seed p) ≡ load_size p
  unfolding load_file
  load_length p = file_length 1 (λ i. series_drawn seed) p (row_drawn seed)

  -- The PV drawn, and a state, are what a row asks for.
  pub row_asked : (pv t : ℕ) → pv ≡ (series_drawn seed).pv → t < modulus → RowAsked pv t
  unfolding series_drawn
  row_asked pv t e h = record { pv_least = omega arith; pv_most = omega arith; is_state = h }

  module _ (p : ℕ) (b c : List ℕ) (t : ℕ) where
    pub walk_begins : t ≡ state_after seed 5 → t < modulus → Walked seed p b b t 0
    unfolding bytes_of_rows state_before
    walk_begins e h = record { rows_most = omega arith; state_is = e; is_state = h; written = refl }

    module _ (r : ℕ) (w : Walked seed p b c t r) where
      pub size_kept : length c ≡ length b
      size_kept = ap length w.written ∙ length-sets b 24 (rows_drawn seed r)

      place : 24 + 32 * r ≡ 24 + length (rows_drawn seed r)
      place = omega (arith, rows_size r)

      -- Row r behind the others, drawn from the state, and the state after it.
      module _ (d : List ℕ) (pv : ℕ) (row : PositionRow) (n : ℕ) (price : pv ≡ (series_drawn seed).pv) (is : row ≡ position_drawn pv t) where
        row_stored : d ≡ sets c (24 + 32 * r) (bytes_of_position row) → d ≡ sets b 24 (rows_drawn seed (r + 1))
        unfolding bytes_of_rows
        row_stored stored =
            let pending : row ≡ row_drawn seed r = is ∙ ap (λ (x : ℕ). position_drawn x t) price ∙ ap (position_drawn (series_drawn seed).pv) w.state_is in
            let last : List ℕ = bytes_of_position (row_drawn seed r) in
            stored_behind b c d (rows_drawn seed r) last 24 w.written
            (stored ∙ ap (λ (x : PositionRow). sets c (24 + 32 * r) (bytes_of_position x)) pending ∙ ap (λ (i : ℕ). sets c i last) place)
            ∙ ap (λ (i : ℕ). sets b 24 (rows_drawn seed i)) (sym (add-one r))

        pub walk_goes_on : r < p → n ≡ state_after_row t → n < modulus → d ≡ sets c (24 + 32 * r) (bytes_of_position row) → Walked seed p b d n (r + 1)
        unfolding state_before
        walk_goes_on h e m stored =
            record {
              rows_most = omega arith;
              state_is = e ∙ ap state_after_row w.state_is ∙ sym (ap (state_before seed) (add-one r));
              is_state = m;
              written = row_stored stored;
            }

      -- The trailer behind all rows; a is the buffer that was lent.
      pub walk_ends : (a d : List ℕ) (s : SeriesRow) → p ≤ r → s ≡ series_drawn seed → b ≡ sets a 0 (bytes_of_series s)
          → d ≡ sets c (24 + 32 * p) (bytes_of_trailer 1 p) → load_size p ≤ length a → d ≡ load_file seed p ++ drop (load_size p) a
      unfolding load_file bytes_of_file bytes_of_rows
      walk_ends a d s h e first stored room =
          let all : r ≡ p = omega (arith, w.rows_most) in
          let series : List ℕ = bytes_of_series (series_drawn seed) in
          let wide : 0 + length series ≡ 24 = omega (arith, series_length (series_drawn seed)) in
          let begun : b ≡ sets a 0 series = first ∙ ap (λ (x : SeriesRow). sets a 0 (bytes_of_series x)) e in
          let rows : c ≡ sets b 24 (rows_drawn seed p) = w.written ∙ ap (λ (i : ℕ). sets b 24 (rows_drawn seed i)) all in
          let both = stored_behind a b c series (rows_drawn seed p) 0 begun (rows ∙ ap (λ (i : ℕ). sets b i (rows_drawn seed p)) (sym wide)) in
          let end : 24 + 32 * p ≡ 0 + length (series ++ rows_drawn seed p) = omega (arith, length-append series (rows_drawn seed p), rows_size p) in
          stored_behind a c d (series ++ rows_drawn seed p) (bytes_of_trailer 1 p) 0 both (stored ∙ ap (λ (i : ℕ). sets c i (bytes_of_trailer 1 p)) end)
          ∙ sets_front (load_file seed p) a (omega (arith, load_length p))
          ∙ ap (λ (i : ℕ). load_file seed p ++ drop i a) (load_length p)
