-- The rank of a row from its two cursors.
-- Assumes nothing.
use Prim.Native.Nat.{ℕ, ◌+◌, ◌*◌, ◌-◌, ◌/◌, ◌%◌, ◌≤◌, ◌<◌}
use mathlib.Core.Bool.{Bool, true, false, cond}
use mathlib.Core.List.{List}
use mathlib.Core.Logic.{◌⊎◌, inl, inr}
use mathlib.Core.Path.{◌≡◌, refl, ◌∙◌}
use native.Mathlib.Omega.{arith}
use lib.Dec.{ltb}
use borrow.Author.Tests.{le-ltb, lt-ltb, ltb-false, ltb-true}
use Rattle.numbers.proofs.Order.{split}
use Rattle.lanes.proofs.FileFacts.{Ranged, row_range}
use Rattle.lanes.proofs.KeyLaws.{key_below, key_is, may_meet, place_most, top_most, top_near}
use Rattle.lanes.specs.Keys.{from, key, none, start, top}
use Rattle.pairing.proofs.CursorLaws.{cursor_group, cursor_key}
use Rattle.pairing.specs.Cursors.{Cursor, Open, distance}
use Rattle.rules.proofs.MayPair.{gap_down, gap_up}
use Rattle.rules.specs.File.{Account}
use Rattle.rules.specs.Pairs.{gap_of}

module _ (a : Account) (ok : Ranged a) (left : List ℕ) (w : ℕ) (lw : w < a.positions) where
  pub gap_most : (h : ℕ) → h < a.positions → gap_of a w h ≤ 10_000_000
  gap_most h l = go (split (a.position_at h).terms.pe (a.position_at w).terms.pe)
    where
      go : ((a.position_at h).terms.pe < (a.position_at w).terms.pe) ⊎ ((a.position_at w).terms.pe ≤ (a.position_at h).terms.pe) → gap_of a w h ≤ 10_000_000
      go (inl d) = omega (arith, gap_down a w h (omega arith), ok.pe_most w lw)
      go (inr d) = omega (arith, gap_up a w h d, ok.pe_most h l)

  -- A distance below the top, and past it.
  module _ (o u x : ℕ) (c : Cursor a left o w u) (is : x ≡ distance a o w u) where
    pub distance_at : u < top a o w → x ≡ u - from a o w
    distance_at t = is ∙ rw (lt-ltb u (top a o w) t) refl

    pub distance_below : x < none → u < top a o w
    distance_below l = go (split u (top a o w))
      where
        go : (u < top a o w) ⊎ (top a o w ≤ u) → u < top a o w
        go (inl t) = t
        go (inr t) = let e : x ≡ none = is ∙ rw (le-ltb u (top a o w) t) refl in absurd (omega arith)

    pub distance_most : x < none → x ≤ 4_000_000_000_000
    distance_most l = omega (arith, distance_at (distance_below l), distance_below l, top_near a ok o w lw)

    -- The row of the cursor is that of the distance.
    pub distance_row : x < none → (o ≡ 256) ⊎ (o ≡ 512) → x % 256 ≡ u % 256
    distance_row l (inl q) =
        let t = distance_below l in
        let s = c.after t in
        let z = distance_at t in
        omega (arith, rw q at s, rw q at z, place_most (a.position_at w) (row_range a ok w lw))
    distance_row l (inr q) =
        let t = distance_below l in
        let s = c.after t in
        let z = distance_at t in
        omega (arith, rw q at s, rw q at z, place_most (a.position_at w) (row_range a ok w lw))

  -- A later cursor is not nearer.
  pub distance_later : (o u v : ℕ) → u ≤ v → distance a o w u ≤ distance a o w v
  distance_later o u v l = go (ltb u (top a o w)) (ltb v (top a o w)) refl refl
    where
      go : (x y : Bool) → ltb u (top a o w) ≡ x → ltb v (top a o w) ≡ y → cond x (u - from a o w) none ≤ cond y (v - from a o w) none
      go true true p q = omega arith
      go true false p q = omega (arith, ltb-true u (top a o w) p, top_most a ok o w lw)
      go false true p q = absurd (omega (arith, ltb-false u (top a o w) p, ltb-true v (top a o w) q))
      go false false p q = omega arith

  -- The up lane has the held rows at the written strike and above it.
  module _ (u x : ℕ) (c : Cursor a left 256 w u) (is : x ≡ distance a 256 w u) where
    pub up_near : (h : ℕ) → h < a.positions → Open a left w h → (a.position_at w).terms.pe ≤ (a.position_at h).terms.pe → x ≤ gap_of a w h * 256 + h
    up_near h l o s =
        let lane = may_meet a w h lw o.may_pair_lem o.unblocked in
        let k = key_is a ok 256 h lane.held in
        let series = lane.series in
        let family_is = lane.family_is in
        let q : start a 256 w ≤ key a 256 h = omega arith in
        let b = key_below a ok 256 w h lw l o.may_pair_lem o.unblocked q in
        let p = c.passed h l o q in
        omega (arith, distance_at 256 u x c is (omega arith), gap_up a w h s)

    pub up_found : x < none → x ≡ gap_of a w (u % 256) * 256 + u % 256
    up_found l =
        let t = distance_below 256 u x c is l in
        let h = u % 256 in
        let group = cursor_group a ok left w lw 256 u c t in
        let series = group.0 in
        let family_is = group.1 in
        let k = cursor_key a ok left w lw 256 u c t in
        let s = c.after t in
        let over : (a.position_at w).terms.pe ≤ (a.position_at h).terms.pe = omega (arith, ok.rows_most) in
        omega (arith, distance_at 256 u x c is t, gap_up a w h over)

  -- The down lane has those strictly below it.
  module _ (d y : ℕ) (c : Cursor a left 512 w d) (is : y ≡ distance a 512 w d) where
    pub down_near : (h : ℕ) → h < a.positions → Open a left w h → (a.position_at h).terms.pe < (a.position_at w).terms.pe → y ≤ gap_of a w h * 256 + h
    down_near h l o s =
        let lane = may_meet a w h lw o.may_pair_lem o.unblocked in
        let k = key_is a ok 512 h lane.held in
        let series = lane.series in
        let family_is = lane.family_is in
        let most = place_most (a.position_at w) (row_range a ok w lw) in
        let q : start a 512 w ≤ key a 512 h = omega arith in
        let b = key_below a ok 512 w h lw l o.may_pair_lem o.unblocked q in
        let p = c.passed h l o q in
        omega (arith, distance_at 512 d y c is (omega arith), gap_down a w h (omega arith))

    pub down_found : y < none → y ≡ gap_of a w (d % 256) * 256 + d % 256
    down_found l =
        let t = distance_below 512 d y c is l in
        let h = d % 256 in
        let group = cursor_group a ok left w lw 512 d c t in
        let series = group.0 in
        let family_is = group.1 in
        let k = cursor_key a ok left w lw 512 d c t in
        let s = c.after t in
        let most = place_most (a.position_at w) (row_range a ok w lw) in
        let most' = place_most (a.position_at h) (row_range a ok h (c.row t)) in
        let under : (a.position_at h).terms.pe ≤ (a.position_at w).terms.pe = omega (arith, ok.rows_most) in
        omega (arith, distance_at 512 d y c is t, gap_down a w h under)

-- The written row of a rank.
pub written_row : (m g w h : ℕ) → w < 256 → h < 256 → m ≡ g * 65_536 + w * 256 + h → m / 256 % 256 ≡ w
written_row m g w h lw lh e = let up : m / 256 ≡ g * 256 + w = omega arith in omega arith
