-- The row reader and the two loops, over plain values: each return of the code as an equation with its definition.
-- Assumes nothing.
use Prim.Native.Nat.{ℕ, ◌+◌, ◌≤◌, ◌<◌}
use mathlib.Core.Bool.{Bool, true, false, ◌&&◌}
use mathlib.Core.List.{List}
use mathlib.Core.Path.{◌≡◌, refl, sym, ◌∙◌, ap}
use native.Mathlib.Numerals.{add-one}
use native.Mathlib.Omega.{arith}
use borrow.Author.Tests.{leb-false}
use lib.Dec.{eqb, leb, ltb}
use Rattle.rules.proofs.Chain.{none_of_five, passes, stops}
use Rattle.rules.proofs.Scan.{CleanTo, clean_more, rows_clean, rows_stop}
use Rattle.rules.specs.File.{position_of, position_row, series_row}
use Rattle.rules.specs.Refusals.{Fault, clean, matched_fault, nonzero, position_fault, position_read, position_row_fault, position_rows, read_as, refused_at, series_fault, series_rows, wrong_flags, wrong_terms}
use Rattle.rules.specs.declared.Layout.{Layout}
use Rattle.rules.specs.declared.Position.{Position}
use Rattle.rules.specs.declared.PositionRow.{PositionRow}
use Rattle.rules.specs.declared.Refusal.{Refusal}
use Rattle.rules.specs.declared.Refusal.TheVariants.{PositionTerms}
use Rattle.rules.specs.declared.SeriesRow.{SeriesRow}
use Rattle.std.specs.Prelude.{Ok, Err}

-- A row that passed refusal 7 names a series of the file.
pub terms_series : (s : ℕ) (r : PositionRow) → wrong_terms s r ≡ false → r.series < s
terms_series s r e =
    leb-false s r.series
    (none_of_five (leb s r.series) (ltb 1 r.side) (ltb 4 r.kind) (wrong_flags r) (eqb r.side 1 && nonzero r.blocked) e).0

-- Row i of a file, read by the code as `row`.
module _ (b : List ℕ) (l : Layout) (i : ℕ) (row : PositionRow) (is : row ≡ position_row b l i) (t : Bool) (tested : t ≡ wrong_terms l.series row) where
  pub terms_stop : t ≡ true → Err PositionTerms ≡ position_read b l i
  unfolding position_read position_row_fault matched_fault
  terms_stop h =
      ap (λ (f : Fault). read_as f (position_of (position_row b l i)))
      (stops t (wrong_terms l.series (position_row b l i)) PositionTerms (matched_fault (series_row b l (position_row b l i).series) (position_row b l i)) (tested ∙ ap (wrong_terms l.series) is) h)

  module _ (passed : t ≡ false) (k : SeriesRow) (series : k ≡ series_row b l row.series) (f : Fault) (found : f ≡ matched_fault k row) where
    same_fault : f ≡ position_fault b l i
    unfolding position_row_fault matched_fault
    same_fault =
        passes t (wrong_terms l.series (position_row b l i)) PositionTerms (matched_fault (series_row b l (position_row b l i).series) (position_row b l i)) f (tested ∙ ap (wrong_terms l.series) is) passed
        (found ∙ ap (λ (x : SeriesRow). matched_fault x row) series ∙ ap (λ (r : PositionRow). matched_fault (series_row b l r.series) r) is)

    pub row_read : (p : Position) → p ≡ position_of row → f ≡ clean → Ok p ≡ position_read b l i
    unfolding position_read
    row_read p q e =
        ap Ok (q ∙ ap position_of is)
        ∙ ap (λ (x : Fault). read_as x (position_of (position_row b l i))) (sym e ∙ same_fault)

    pub row_unread : (w : Refusal) → f ≡ Err w → Err w ≡ position_read b l i
    unfolding position_read
    row_unread w e = ap (λ (x : Fault). read_as x (position_of (position_row b l i))) (sym e ∙ same_fault)

-- What the row reader's answer tells of the row.
pub read_clean : (b : List ℕ) (l : Layout) (i : ℕ) (p : Position) → Ok p ≡ position_read b l i → position_fault b l i ≡ clean
unfolding position_read
read_clean b l i p e = go (position_fault b l i) refl
  where
    go : (f : Fault) → position_fault b l i ≡ f → position_fault b l i ≡ clean
    go (Ok u) q = q
    go (Err w) q =
        let m = e ∙ ap (λ (x : Fault). read_as x (position_of (position_row b l i))) q in
        let z : ◌≡◌ {A = ℕ} 0 1 = cc in
        absurd (omega arith)

pub read_found : (b : List ℕ) (l : Layout) (i : ℕ) (w : Refusal) → Err w ≡ position_read b l i → position_fault b l i ≡ Err w
unfolding position_read
read_found b l i w e = go (position_fault b l i) refl
  where
    go : (f : Fault) → position_fault b l i ≡ f → position_fault b l i ≡ Err w
    go (Ok u) q =
        let m = e ∙ ap (λ (x : Fault). read_as x (position_of (position_row b l i))) q in
        let z : ◌≡◌ {A = ℕ} 0 1 = cc in
        absurd (omega arith)
    go (Err v) q =
        let m = e ∙ ap (λ (x : Fault). read_as x (position_of (position_row b l i))) q in
        let z : w ≡ v = cc in
        q ∙ ap Err (sym z)

-- One more clean row, at the code's i + 1.
pub clean_next : (f : ℕ → Fault) (i : ℕ) → CleanTo f i → f i ≡ clean → CleanTo f (i + 1)
clean_next f i c e = rw (add-one i) (clean_more f i c e)

module _ (b : List ℕ) (l : Layout) where
  pub position_stop : (i : ℕ) (w : Refusal) → i < l.positions → CleanTo (position_fault b l) i → position_fault b l i ≡ Err w → refused_at w i ≡ position_rows b l
  unfolding position_rows
  position_stop i w h c e =
      sym (rows_stop (position_fault b l) l.positions i w (Ok l) (record { there = h; before = c; fault = e }))

  pub positions_clean : (i : ℕ) → l.positions ≤ i → CleanTo (position_fault b l) i → Ok l ≡ position_rows b l
  unfolding position_rows
  positions_clean i h c =
      sym (rows_clean (position_fault b l) l.positions (Ok l) (λ j less. c j (omega arith)))

  pub series_stop : (i : ℕ) (w : Refusal) → i < l.series → CleanTo (series_fault b l) i → series_fault b l i ≡ Err w → refused_at w i ≡ series_rows b l
  unfolding series_rows
  series_stop i w h c e =
      sym (rows_stop (series_fault b l) l.series i w (position_rows b l) (record { there = h; before = c; fault = e }))

  pub all_series_clean : (i : ℕ) → l.series ≤ i → CleanTo (series_fault b l) i → position_rows b l ≡ series_rows b l
  unfolding series_rows
  all_series_clean i h c =
      sym (rows_clean (series_fault b l) l.series (position_rows b l) (λ j less. c j (omega arith)))
