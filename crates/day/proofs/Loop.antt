-- One row's flags written or left, and the loop over the rows: what is known of the file when its first r rows have their new
-- flags.
-- Assumes nothing.
use Prim.Native.Nat.{ℕ, ◌+◌, ◌≤◌, ◌<◌}
use mathlib.Core.List.{List}
use mathlib.Core.Path.{◌≡◌, sym, ◌∙◌, ap, subst}
use borrow.Author.Tests.{eq-eqb, ne_eqb}
use lib.ListN.{length, set}
use lib.Seq.{set-get_or, sets}
use Rattle.account.proofs.KnownRows.{position_within}
use Rattle.account.specs.Known.{Known}
use Rattle.rules.proofs.DayLaws.{flags_length, flags_next, flags_other, flags_own, flags_pending}
use Rattle.rules.specs.Day.{day_written, flags_after, flags_crossed, flags_place, flags_written, pv_place}
use Rattle.rules.specs.File.{barrier_of, position_row}
use Rattle.rules.specs.Limits.{Placed}
use Rattle.rules.specs.Writing.{bytes4}
use Rattle.rules.specs.declared.Day.{Day}
use Rattle.rules.specs.declared.Layout.{Layout}
use Rattle.rules.specs.declared.PositionRow.{PositionRow}

-- Row r of any file with rows that stand within it: what is left where it is of the day's series, and where it is not.
module _ (file : List ℕ) (l : Layout) (d : Day) (r : ℕ) (placed : Placed file l) (there : r < l.positions) where
  -- The row as it was read.
  module _ (row : PositionRow) (read : row ≡ position_row file l r) where
    pub own_row : (f : ℕ) → row.series ≡ d.series → f ≡ flags_crossed d (barrier_of row.kind row.price) row.flags
        → set file (flags_place l r) f ≡ set file (flags_place l r) (flags_after d (position_row file l r))
    own_row f e is =
        ap (set file (flags_place l r)) (is ∙ sym (flags_own d row (eq-eqb row.series d.series e)) ∙ ap (flags_after d) read)

    -- The flags of another series' row are there already.
    pub other_row : (row.series ≡ d.series → ⊥) → file ≡ set file (flags_place l r) (flags_after d (position_row file l r))
    unfolding position_row
    other_row n =
        sym (ap (λ (x : PositionRow). set file (flags_place l r) (flags_after d x)) (sym read)
        ∙ ap (set file (flags_place l r)) (flags_other d row (ne_eqb row.series d.series n) ∙ ap (λ (x : PositionRow). x.flags) read)
        ∙ set-get_or file (flags_place l r) 0)

module _ (b : List ℕ) (l : Layout) (d : Day) (k : Known b l) (file : List ℕ) (r : ℕ) (is : file ≡ flags_written b l d r) where
  pub same_size : length file ≡ length b
  same_size = ap length is ∙ flags_length b l d k.placed r

  pub still_placed : Placed file l
  still_placed =
      let p = k.placed in
      record {
        size_most = rw same_size p.size_most;
        series_most = p.series_most;
        positions_most = p.positions_most;
        width_is = p.width_is;
        positions_start_is = p.positions_start_is;
        room = rw same_size p.room;
      }

  module _ (there : r < l.positions) where
    row_is : position_row file l r ≡ position_row b l r
    row_is = ap (λ (c : List ℕ). position_row c l r) is ∙ flags_pending b l d k.placed r

    pub row_flags : (position_row file l r).flags ≤ 31
    row_flags = subst (λ (x : PositionRow). x.flags ≤ 31) (sym row_is) (position_within b l k r there).flags_most

    pub stored : (c : List ℕ) → c ≡ set file (flags_place l r) (flags_after d (position_row file l r)) → c ≡ flags_written b l d (r + 1)
    stored c e =
        e
        ∙ ap (λ (x : PositionRow). set file (flags_place l r) (flags_after d x)) row_is
        ∙ ap (λ (x : List ℕ). set x (flags_place l r) (flags_after d (position_row b l r))) is
        ∙ flags_next b l d k.placed r

-- The flags and then the PV, each by its own function: x is the file between them, c after both.
pub day_by_stores : (b : List ℕ) (l : Layout) (d : Day) (c x : List ℕ) → x ≡ flags_written b l d l.positions
    → c ≡ sets x (pv_place l d.series) (bytes4 d.close) → c ≡ day_written b l d
unfolding day_written
day_by_stores b l d c x flags pv = pv ∙ ap (λ (y : List ℕ). sets y (pv_place l d.series) (bytes4 d.close)) flags
