-- What is kept of a row at the start, and its three stores.
-- Assumes nothing.
use Prim.Native.Nat.{ℕ, ◌+◌, ◌%◌, ◌≤◌, ◌<◌}
use mathlib.Core.Bool.{Bool, true, false, cond, ◌&&◌, true≢false}
use mathlib.Core.List.{List}
use mathlib.Core.Path.{◌≡◌, refl, sym, ◌∙◌}
use native.Mathlib.Omega.{arith}
use lib.Dec.{ltb}
use lib.ListN.{length, set, length-set}
use lib.Seq.{get_or-set_other, get_or-set_same}
use borrow.Author.Tests.{ltb-true}
use Rattle.account.specs.Accepted.{account_in}
use Rattle.lanes.proofs.FileFacts.{ranged, row_range}
use Rattle.lanes.proofs.MarkLaws.{mark_role}
use Rattle.lanes.specs.Keys.{fits_lanes, pairs_as_held, pairs_as_written}
use Rattle.lanes.specs.Marks.{role_of, side_role}
use Rattle.numbers.specs.Lists.{nth}
use Rattle.pairing.proofs.CursorLaws.{cursor_starts}
use Rattle.pairing.proofs.SearchLaws.{nothing_kept}
use Rattle.pairing.specs.Cursors.{Kept, Places, idle}
use Rattle.pairing.specs.Standings.{PlacesPut}
use Rattle.pairing.specs.declared.Standing.{Standing}
use Rattle.pairing.specs.declared.rows_now.RowsNow.{RowsNow}
use Rattle.rules.proofs.MayPair.{may_pairable}
use Rattle.rules.proofs.Tests.{both}
use Rattle.rules.specs.Pairs.{is_written, may_be_paired}
use Rattle.rules.specs.declared.Position.{Position}
use Rattle.rules.specs.declared.Side.{Side}
use Rattle.rules.specs.declared.Side.TheVariants.{Held, Written}

-- A row of role 1 is a written one that pairs, and none of the lanes; a row of another role is no such row.
pub record WrittenRow (p : Position) : Type 0 where
  pub written : pairs_as_written p ≡ true
  pub outside : pairs_as_held p ≡ false

pub role_written : (fits : Bool) (p : Position) → role_of fits p ≡ 1 → WrittenRow p
role_written fits p = go fits p.side (may_be_paired p) refl refl
  where
    go : (m : Bool) (s : Side) (t : Bool) → p.side ≡ s → may_be_paired p ≡ t → cond t (side_role m s) 2 ≡ 1 → WrittenRow p
    go true Held true es et e = absurd (omega arith)
    go false Held true es et e = absurd (omega arith)
    go m Held false es et e = absurd (omega arith)
    go m Written true es et e = record { written = rw (es, et) refl; outside = rw es refl }
    go m Written false es et e = absurd (omega arith)

pub role_other : (fits : Bool) (p : Position) → (role_of fits p ≡ 1 → ⊥) → pairs_as_written p ≡ true → ⊥
role_other fits p = go p.side (may_be_paired p)
  where
    go : (s : Side) (t : Bool) → (cond t (side_role fits s) 2 ≡ 1 → ⊥) → (is_written s && t) ≡ true → ⊥
    go Held t n e = true≢false (sym e)
    go Written true n e = n refl
    go Written false n e = true≢false (sym e)

module _ (rows : RowsNow) (w : ℕ) (row : w < rows.file.layout.positions) where
  role_is : nth rows.table.now w % 256 ≡ role_of (fits_lanes (account_in rows.file) w) ((account_in rows.file).position_at w)
  role_is =
      rw (rows.rests.filled.marks w row)
      (mark_role (fits_lanes (account_in rows.file) w) ((account_in rows.file).position_at w) (row_range (account_in rows.file) (ranged rows.file.bytes.now rows.file.layout rows.rests.file) w row))

  -- Its first places: a written row is in no lane itself.
  pub first_places : nth rows.table.now w % 256 ≡ 1 → Places (account_in rows.file) rows.left.now w (nth rows.table.now (256 + w)) (nth rows.table.now (512 + w))
  first_places e =
      let r = role_written (fits_lanes (account_in rows.file) w) ((account_in rows.file).position_at w) (sym role_is ∙ e) in
      let ok = ranged rows.file.bytes.now rows.file.layout rows.rests.file in
      record {
        up = cursor_starts (account_in rows.file) ok rows.left.now w row 256 rows.table.now r.outside r.written rows.rests.filled.up;
        down = cursor_starts (account_in rows.file) ok rows.left.now w row 512 rows.table.now r.outside r.written rows.rests.filled.down;
        written = r.written;
      }

  pub not_written : (nth rows.table.now w % 256 ≡ 1 → ⊥) → (t : Standing) → t.rank ≡ idle → Kept (account_in rows.file) rows.left.now w t
  not_written e =
      nothing_kept (account_in rows.file) rows.left.now w
      (λ h lh o.
      let p = may_pairable (account_in rows.file) w h o.may_pair_lem in
      role_other (fits_lanes (account_in rows.file) w) ((account_in rows.file).position_at w) (λ q. e (role_is ∙ q)) (rw (p.is_written_lem, p.written_may)))

pub both_some : (x y : ℕ) → (ltb 0 x && ltb 0 y) ≡ true → (1 ≤ x) × (1 ≤ y)
both_some x y e = let t = both (ltb 0 x) (ltb 0 y) e in (ltb-true 0 x t.0, ltb-true 0 y t.1)

-- Three stores.
abbrev pub put : List ℕ → ℕ → Standing → List ℕ
put places w t = set (set (set places w t.up) (256 + w) t.down) (512 + w) t.spread

pub places_put : (places : List ℕ) (w : ℕ) (t : Standing) → 768 ≤ length places → w < 256 → PlacesPut places (put places w t) w t
places_put places w t long lw =
    record {
      up =
          get_or-set_other (set (set places w t.up) (256 + w) t.down) (512 + w) w t.spread 0 (λ (q : w ≡ 512 + w). omega arith)
          ∙ get_or-set_other (set places w t.up) (256 + w) w t.down 0 (λ (q : w ≡ 256 + w). omega arith)
          ∙ get_or-set_same places w t.up 0 (omega arith);
      down =
          get_or-set_other (set (set places w t.up) (256 + w) t.down) (512 + w) (256 + w) t.spread 0 (λ (q : 256 + w ≡ 512 + w). omega arith)
          ∙ get_or-set_same (set places w t.up) (256 + w) t.down 0 (simp length-set (omega arith));
      spread = get_or-set_same (set (set places w t.up) (256 + w) t.down) (512 + w) t.spread 0 (simp length-set (omega arith));
      others =
          λ v lv d. (
            past v (λ q. d q) (λ (q : v ≡ 256 + w). omega arith) (λ (q : v ≡ 512 + w). omega arith),
            past (256 + v) (λ (q : 256 + v ≡ w). omega arith) (λ (q : 256 + v ≡ 256 + w). d (omega arith)) (λ (q : 256 + v ≡ 512 + w). omega arith),
            past (512 + v) (λ (q : 512 + v ≡ w). omega arith) (λ (q : 512 + v ≡ 256 + w). omega arith) (λ (q : 512 + v ≡ 512 + w). d (omega arith)),
          );
    }
  where
    past : (n : ℕ) → (n ≡ w → ⊥) → (n ≡ 256 + w → ⊥) → (n ≡ 512 + w → ⊥) → nth (put places w t) n ≡ nth places n
    past n a b c =
        get_or-set_other (set (set places w t.up) (256 + w) t.down) (512 + w) n t.spread 0 c
        ∙ get_or-set_other (set places w t.up) (256 + w) n t.down 0 b
        ∙ get_or-set_other places w n t.up 0 a
