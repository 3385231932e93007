-- Document 01, Pairs: what two rows that pair are like, and their strike difference.
-- Assumes nothing.
use Prim.Native.Nat.{ℕ, ◌-◌, ◌≤◌, ◌<◌}
use mathlib.Core.Bool.{Bool, true, false, not, ◌&&◌, ◌||◌, false≢true}
use mathlib.Core.Path.{◌≡◌, refl, ap}
use native.Mathlib.Omega.{arith}
use lib.Dec.{eqb}
use borrow.Author.Tests.{eqb-true, ltb-true, not-true}
use Rattle.rules.proofs.Tests.{both}
use Rattle.rules.proofs.Weights.{Apart}
use Rattle.rules.specs.File.{Account, series_of_row}
use Rattle.rules.specs.OnePosition.{unit_margin}
use Rattle.rules.specs.Pairs.{book_of, gap_of, is_held, is_written, lowers, may_be_paired, may_of, may_pair}
use Rattle.rules.specs.Spreads.{unit_spread}
use Rattle.rules.specs.declared.Position.{Position}
use Rattle.rules.specs.declared.Series.{Series}
use Rattle.rules.specs.declared.Side.{Side}
use Rattle.rules.specs.declared.Side.TheVariants.{Held, Written}
use Rattle.std.specs.Prelude.{Option, Some, None}

-- "one held and one written row of a series, both European or opened before the annex" and neither with flag 16, with "the
-- written unit margin .. greater than the spread's".
pub record Pairable (s : Series) (w h : Position) : Type 0 where
  pub is_written_lem : w.side ≡ Written
  pub is_held_lem : h.side ≡ Held
  pub one_series : w.series ≡ h.series
  pub written_may : may_be_paired w ≡ true
  pub held_may : may_be_paired h ≡ true
  pub spread : ℕ
  pub spread_is : unit_spread s h w ≡ Some spread
  pub spread_less : spread < unit_margin s w

side_written : (x : Side) → is_written x ≡ true → x ≡ Written
side_written Held e = absurd (false≢true e)
side_written Written e = refl

side_held : (x : Side) → is_held x ≡ true → x ≡ Held
side_held Held e = refl
side_held Written e = absurd (false≢true e)

lowered : (unit : ℕ) (x : Option ℕ) → lowers unit x ≡ true → (u : ℕ) × (x ≡ Some u) × (u < unit)
lowered unit None e = absurd (false≢true e)
lowered unit (Some u) e = (u, refl, ltb-true u unit e)

five : (p q r s t : Bool) → (p && q && r && s && t) ≡ true
    → (p ≡ true) × (q ≡ true) × (r ≡ true) × (s ≡ true) × (t ≡ true)
five p q r s t e =
    let last = both (p && q && r && s) t e in
    let fourth = both (p && q && r) s last.0 in
    let third = both (p && q) r fourth.0 in
    let first = both p q third.0 in
    (first.0, first.1, third.1, fourth.1, last.1)

-- A row that may be paired has no flag 16.
pub no_flag_16 : (p : Position) → may_be_paired p ≡ true → p.flags.knockedOut ≡ false
no_flag_16 p e =
    not-true p.flags.knockedOut (both (p.flags.european || p.flags.beforeAnnex) (not p.flags.knockedOut) e).1

pub pairable_if : (s : Series) (w h : Position) → may_pair s w h ≡ true → Pairable s w h
pairable_if s w h e =
    let tests =
    five (is_written w.side) (is_held h.side) (eqb w.series h.series) (may_be_paired w && may_be_paired h)
    (lowers (unit_margin s w) (unit_spread s h w)) e in
    let terms = both (may_be_paired w) (may_be_paired h) tests.3 in
    let less = lowered (unit_margin s w) (unit_spread s h w) tests.4 in
    record {
      is_written_lem = side_written w.side tests.0;
      is_held_lem = side_held h.side tests.1;
      one_series = eqb-true w.series h.series tests.2;
      written_may = terms.0;
      held_may = terms.1;
      spread = less.0;
      spread_is = less.1;
      spread_less = less.2;
    }

pub may_pairable : (a : Account) (w h : ℕ) → may_of a w h ≡ true → Pairable (series_of_row a w) (a.position_at w) (a.position_at h)
unfolding may_of
may_pairable a w h e = pairable_if (series_of_row a w) (a.position_at w) (a.position_at h) e

-- A row is written or held, so it does not pair with itself.
pub apart : (a : Account) → Apart (book_of a)
apart a w h e d =
    let p = may_pairable a w h e in
    let q : (a.position_at w).side ≡ (a.position_at h).side = ap (λ r. (a.position_at r).side) d in
    let z : ◌≡◌ {A = ℕ} 0 1 = cc (p.is_written_lem, p.is_held_lem, q) in
    omega arith

-- "strike difference, without sign"
pub gap_up : (a : Account) (w h : ℕ)
    → (a.position_at w).terms.pe ≤ (a.position_at h).terms.pe → gap_of a w h ≡ (a.position_at h).terms.pe - (a.position_at w).terms.pe
unfolding gap_of
gap_up a w h l = omega arith

pub gap_down : (a : Account) (w h : ℕ)
    → (a.position_at h).terms.pe ≤ (a.position_at w).terms.pe → gap_of a w h ≡ (a.position_at w).terms.pe - (a.position_at h).terms.pe
unfolding gap_of
gap_down a w h l = omega arith
