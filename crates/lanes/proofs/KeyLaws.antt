-- What a key tells of its row, in both lanes.
-- Assumes nothing.
use Prim.Native.Nat.{ℕ, ◌+◌, ◌*◌, ◌-◌, ◌%◌, ◌≤◌, ◌<◌}
use mathlib.Core.Bool.{Bool, true, false, cond}
use mathlib.Core.Path.{◌≡◌, refl}
use native.Mathlib.Omega.{arith}
use lib.Dec.{eqb}
use borrow.Author.Tests.{eqb-true}
use Rattle.lanes.proofs.FileFacts.{Ranged, row_range}
use Rattle.lanes.proofs.FamilyLaws.{family_most, may_family}
use Rattle.lanes.proofs.LimiterLaws.{may_fit}
use Rattle.lanes.specs.Keys.{InRange, family, from, group_of, in_lanes, key, last, link_from, none, place_of, some_unblocked, start, top}
use Rattle.rules.proofs.MayPair.{may_pairable}
use Rattle.rules.specs.File.{Account}
use Rattle.rules.specs.Pairs.{may_of}
use Rattle.rules.specs.declared.Position.{Position}

-- Two rows that may pair, of which the held one has contracts that are not blocked: it is in the lanes, both have one series and
-- one family, and knock-ins one strike.
pub record Meet (a : Account) (w h : ℕ) : Type 0 where
  pub held : in_lanes a h ≡ true
  pub series : (a.position_at w).series ≡ (a.position_at h).series
  pub family_is : family (a.position_at w) ≡ family (a.position_at h)
  pub strike : family (a.position_at w) ≡ 3 → (a.position_at w).terms.pe ≡ (a.position_at h).terms.pe

pub may_meet : (a : Account) (w h : ℕ) → w < a.positions → may_of a w h ≡ true → some_unblocked a h ≡ true → Meet a w h
may_meet a w h l e some =
    let p = may_pairable a w h e in
    let f = may_family a w h e in
    record { held = rw (p.is_held_lem, p.held_may, may_fit a w h l e, some) refl; series = p.one_series; family_is = f.0; strike = f.1 }

-- The same as the definitions have it, of the up lane where u is true, else of the down lane.
abbrev from_by : Bool → Position → ℕ
from_by u p = cond u (place_of p) (last - place_of p)

abbrev top_by : Bool → Position → ℕ
top_by u p =
    cond (eqb (family p) 3)
    (cond u (place_of p + 256) 0)
    (cond u (group_of p + 1_099_511_627_776) (last + 256 - group_of p))

abbrev slack_by : Bool → ℕ
slack_by u = cond u 0 256

-- Positions within the ranges.
module _ (p : Position) (ok : InRange p) where
  pub place_most : place_of p ≤ 145_000_000_000_000
  place_most = omega (arith, ok.series_most, ok.pe_most, family_most p)

  from_most : (u : Bool) → from_by u p ≤ last
  from_most true = omega (arith, place_most)
  from_most false = omega arith

  from_row : (u : Bool) (h : ℕ) → h < 256 → (from_by u p + h) % 256 ≡ h
  from_row true h l = omega arith
  from_row false h l = omega (arith, place_most)

  top_near_by : (u x : Bool)
      → cond x (cond u (place_of p + 256) 0) (cond u (group_of p + 1_099_511_627_776) (last + 256 - group_of p))
      ≤ from_by u p + 1_099_511_627_776
  top_near_by true true = omega arith
  top_near_by true false = omega arith
  top_near_by false true = omega arith
  top_near_by false false = omega (arith, place_most, ok.pe_most)

  -- The top lies within the group.
  top_group : (u x : Bool)
      → cond x (cond u (place_of p + 256) 0) (cond u (group_of p + 1_099_511_627_776) (last + 256 - group_of p))
      ≤ cond u (group_of p + 1_099_511_627_776) (last + 256 - group_of p)
  top_group true true = omega (arith, ok.pe_most)
  top_group true false = omega arith
  top_group false true = omega arith
  top_group false false = omega arith

module _ (p q : Position) (okp : InRange p) (okq : InRange q) (h : ℕ) (lh : h < 256) where
  one_group_by : (u : Bool) → from_by u p + slack_by u ≤ from_by u q + h → from_by u q + h < top_by u p
      → p.series * 4 + family p ≡ q.series * 4 + family q
  one_group_by true low high =
      omega (arith, top_group p okp true (eqb (family p) 3), okq.pe_most)
  one_group_by false low high =
      omega (arith, top_group p okp false (eqb (family p) 3), okp.pe_most, okq.pe_most, place_most p okp, place_most q okq)

  -- The key of a row that may pair lies below the top.
  key_below_by : (u x : Bool) → eqb (family p) 3 ≡ x → p.series ≡ q.series → family p ≡ family q
      → (family p ≡ 3 → p.terms.pe ≡ q.terms.pe) → from_by u p + slack_by u ≤ from_by u q + h
      → from_by u q + h < cond x (cond u (place_of p + 256) 0) (cond u (group_of p + 1_099_511_627_776) (last + 256 - group_of p))
  key_below_by true true e s f k above = omega (arith, k (eqb-true _ 3 e))
  key_below_by false true e s f k above = absurd (omega (arith, k (eqb-true _ 3 e), place_most q okq))
  key_below_by true false e s f k above = omega (arith, okq.pe_most)
  key_below_by false false e s f k above = omega (arith, place_most q okq)

module _ (a : Account) (ok : Ranged a) (o : ℕ) where
  pub key_is : (h : ℕ) → in_lanes a h ≡ true → key a o h ≡ from a o h + h
  key_is h e = rw e

  pub link_from_is : (h : ℕ) → in_lanes a h ≡ true → link_from a o h ≡ from a o h + h + 1
  link_from_is h e = rw e

  pub key_some : (h : ℕ) → key a o h < none → in_lanes a h ≡ true
  key_some h = go (in_lanes a h) refl
    where
      go : (t : Bool) → in_lanes a h ≡ t → cond t (from a o h + h) none < none → t ≡ true
      go true e l = refl
      go false e l = absurd (omega arith)

  -- The row of a key.
  pub key_row : (h : ℕ) → h < a.positions → key a o h < none → key a o h % 256 ≡ h
  key_row h l k =
      rw (key_is h (key_some h k))
      (from_row (a.position_at h) (row_range a ok h l) (eqb o 256) h (omega (arith, ok.rows_most)))

  pub top_near : (r : ℕ) → r < a.positions → top a o r ≤ from a o r + 1_099_511_627_776
  top_near r l = top_near_by (a.position_at r) (row_range a ok r l) (eqb o 256) (eqb (family (a.position_at r)) 3)

  -- A key between a row's start and its top is of the row's series and family.
  pub one_group : (w h : ℕ) → w < a.positions → h < a.positions → start a o w ≤ from a o h + h → from a o h + h < top a o w
      → ((a.position_at w).series ≡ (a.position_at h).series) × (family (a.position_at w) ≡ family (a.position_at h))
  one_group w h lw lh low high =
      let e =
      one_group_by (a.position_at w) (a.position_at h) (row_range a ok w lw) (row_range a ok h lh) h (omega (arith, ok.rows_most)) (eqb o 256) low high
      in (
        omega (arith, e, family_most (a.position_at w), family_most (a.position_at h)),
        omega (arith, e, family_most (a.position_at w), family_most (a.position_at h)),
      )

  pub top_most : (r : ℕ) → r < a.positions → top a o r < none
  top_most r l = omega (arith, top_near r l, from_most (a.position_at r) (row_range a ok r l) (eqb o 256))

  -- The key of a row that may pair lies below the top.
  pub key_below : (w h : ℕ) → w < a.positions → h < a.positions → may_of a w h ≡ true → some_unblocked a h ≡ true → start a o w ≤ key a o h → key a o h < top a o w
  key_below w h lw lh e some above =
      let m = may_meet a w h lw e some in
      rw (key_is h m.held)
      (key_below_by (a.position_at w) (a.position_at h) (row_range a ok w lw) (row_range a ok h lh) h (omega (arith, ok.rows_most))
      (eqb o 256) (eqb (family (a.position_at w)) 3) refl m.series m.family_is m.strike (rw (key_is h m.held) at above))
