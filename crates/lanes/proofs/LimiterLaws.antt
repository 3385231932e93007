-- Rows that may pair: the held row's limiter is no nearer than the written one's, so that it fits. The nearest limiters row
-- by row.
-- Assumes nothing.
use Prim.Native.Nat.{ℕ, zero, suc, ◌+◌, ◌≤◌, ◌<◌, max}
use mathlib.Core.Bool.{true, false, cond, ◌&&◌, true≢false}
use mathlib.Core.List.{List}
use mathlib.Core.Logic.{◌⊎◌, inl, inr}
use mathlib.Core.Path.{◌≡◌, refl, sym, ap, ap₂, ◌∙◌}
use native.Mathlib.Numerals.{add-one}
use native.Mathlib.Omega.{arith}
use lib.Dec.{eqb, leb, ltb}
use lib.ListN.{get_or-replicate, length, replicate, set}
use lib.Seq.{get_or-set_other, get_or-set_same}
use borrow.Author.Tests.{eq-eqb, le-leb, ltb-false, ne_eqb}
use Rattle.lanes.specs.Keys.{fits_lanes}
use Rattle.lanes.specs.Limiters.{Nearest, if_written, limiter_fits, nearest_limiter, nearness, nearness_of}
use Rattle.numbers.proofs.Order.{newest, same as decide}
use Rattle.numbers.specs.Lists.{nth}
use Rattle.rules.proofs.MayPair.{may_pairable}
use Rattle.rules.proofs.RowFacts.{flag_1_leaves}
use Rattle.rules.proofs.SpreadForms.{made_unbarred}
use Rattle.rules.specs.File.{Account, series_of_row}
use Rattle.rules.specs.OnePosition.{normal}
use Rattle.rules.specs.Pairs.{may_of}
use Rattle.rules.specs.Spreads.{limiter_bars, unit_spread}
use Rattle.rules.specs.declared.Limiter.{Limiter}
use Rattle.rules.specs.declared.Limiter.TheVariants.{NoLimiter, At}
use Rattle.rules.specs.declared.OptionType.{OptionType}
use Rattle.rules.specs.declared.OptionType.TheVariants.{Call, Put}
use Rattle.rules.specs.declared.Position.{Position}

-- Limiters that bar no pair.
no_nearer : (k : OptionType) (h w : Limiter) → limiter_bars k h w ≡ false → nearness k h ≤ nearness k w
no_nearer k NoLimiter w e = omega arith
no_nearer k (At pbh) NoLimiter e = absurd (true≢false e)
no_nearer Call (At pbh) (At pbw) e = let o = ltb-false pbh pbw e in omega arith
no_nearer Put (At pbh) (At pbw) e = let o = ltb-false pbw pbh e in omega arith

-- The nearest limiter with one row more.
nearest_more : (a : Account) (s n : ℕ)
    → nearest_limiter a s (n + 1) ≡ max (nearest_limiter a s n) (cond (eqb (a.position_at n).series s) (if_written (a.position_at n).side (nearness_of a n)) 0)
unfolding nearest_limiter
nearest_more a s n = rw add-one refl

-- A written row's limiter is no nearer than the nearest of its series.
nearest_most : (a : Account) (s w n : ℕ) → w < n → (a.position_at w).series ≡ s → if_written (a.position_at w).side (nearness_of a w) ≤ nearest_limiter a s n
unfolding nearest_limiter
nearest_most a s w zero l e = absurd (omega arith)
nearest_most a s w (suc n) l e = go (newest w n (omega arith)) (λ b. nearest_most a s w n b e)
  where
    go : (w ≡ n) ⊎ (w < n) → (w < n → if_written (a.position_at w).side (nearness_of a w) ≤ nearest_limiter a s n)
        → if_written (a.position_at w).side (nearness_of a w) ≤ nearest_limiter a s (suc n)
    go (inl q) f = rw (sym q, eq-eqb (a.position_at w).series s e) (omega arith)
    go (inr b) f = omega (arith, f b)

-- Of two rows that may pair the held one's limiter fits.
pub may_fit : (a : Account) (w h : ℕ) → w < a.positions → may_of a w h ≡ true → limiter_fits a h ≡ true
unfolding unit_spread
may_fit a w h l e =
    let p = may_pairable a w h e in
    let written = a.position_at w in
    let held = a.position_at h in
    let s = series_of_row a w in
    let free = made_unbarred s (normal held) (normal written) p.spread p.spread_is in
    let near = no_nearer s.option (normal held).limiter (normal written).limiter free in
    let one : series_of_row a w ≡ series_of_row a h = ap a.series_at p.one_series in
    let of-held : nearness_of a h ≡ nearness s.option (normal held).limiter = rw (one, (flag_1_leaves held).1) refl in
    let of-written : nearness_of a w ≡ nearness s.option (normal written).limiter = rw (flag_1_leaves written).1 refl in
    let most = rw p.is_written_lem at (nearest_most a held.series w a.positions l p.one_series) in
    le-leb (nearness_of a h) (nearest_limiter a held.series a.positions) (omega (arith, near, of-held, of-written, most))

-- One row more.
module _ (a : Account) (n : ℕ) (near : List ℕ) (f : Nearest a n near) where
  pub nearest_put : (s x y : ℕ) → s < 32 → 32 ≤ length near → s ≡ (a.position_at n).series
      → x ≡ if_written (a.position_at n).side (nearness_of a n) → y ≡ max (nth near s) x → Nearest a (n + 1) (set near s y)
  nearest_put s x y l room is ex ey t lt = go (decide t s)
    where
      go : (t ≡ s) ⊎ (t ≡ s → ⊥) → nth (set near s y) t ≡ nearest_limiter a t (n + 1)
      go (inl q) =
          rw (q, nearest_more a s n, eq-eqb (a.position_at n).series s (sym is))
          (get_or-set_same near s y 0 (omega arith) ∙ ey ∙ rw (f s l, ex) refl)
      go (inr d) =
          rw (nearest_more a t n, ne_eqb (a.position_at n).series t (λ q. d (sym (is ∙ q))))
          (get_or-set_other near s t y 0 d ∙ f t lt ∙ omega arith)

-- The code's tests of a row p that it read.
limiter_fits_lem : (a : Account) (near : List ℕ) → Nearest a a.positions near → (p : Position) (r x : ℕ) → p ≡ a.position_at r → p.series < 32
    → x ≡ nearness (a.series_at p.series).option p.terms.limiter → leb x (nth near p.series) ≡ limiter_fits a r
limiter_fits_lem a near f p r x e l ex =
    rw (f p.series l, ex)
    (ap (λ (q : Position). leb (nearness (a.series_at q.series).option q.terms.limiter) (nearest_limiter a q.series a.positions)) e)

pub lanes_fit : (a : Account) (near : List ℕ) → Nearest a a.positions near → (p : Position) (r x : ℕ) → p ≡ a.position_at r → p.series < 32
    → x ≡ nearness (a.series_at p.series).option p.terms.limiter → (leb x (nth near p.series) && ltb p.blocked p.q) ≡ fits_lanes a r
lanes_fit a near f p r x e l ex =
    ap₂ (λ s t. s && t) (limiter_fits_lem a near f p r x e l ex) (ap (λ (q : Position). ltb q.blocked q.q) e)

-- Zeros, before the first row.
pub nearest_none : (a : Account) → Nearest a 0 (replicate 32 0)
unfolding nearest_limiter
nearest_none a s l = get_or-replicate {A = ℕ} 32 s 0 0 l
