-- The rows drawn are within document 01's limits, whatever the states.
-- Assumes nothing.
use Prim.Native.Nat.{ℕ, ◌+◌, ◌-◌, ◌%◌, ◌≤◌, ◌<◌}
use mathlib.Core.Logic.{◌⊎◌, inl, inr}
use mathlib.Core.Path.{◌≡◌, refl, sym}
use native.Mathlib.Omega.{arith}
use borrow.Author.Tests.{eq-eqb, ne_eqb}
use lib.Dec.{eqb}
use Rattle.load.proofs.DrawLaws.{below_pv, down_drawn, up_drawn}
use Rattle.load.specs.Load.{kind_drawn, position_drawn, row_drawn, series_drawn, state_after, state_before}
use Rattle.load.specs.Rows.{barrier_by, rebate_by}
use Rattle.rules.proofs.Tests.{both_fail, cond_case, lt_or_ge}
use Rattle.rules.specs.Limits.{PositionWithin, SeriesWithin}
use Rattle.rules.specs.declared.SeriesRow.{SeriesRow}

pub series_within : (seed : ℕ) → SeriesWithin (series_drawn seed)
unfolding series_drawn
series_within seed =
    record {
      pv_least = omega arith;
      pv_most = omega arith;
      fa_least = omega arith;
      fa_most = omega arith;
      fb_most = omega arith;
      f3_most = omega arith;
      m_least = omega arith;
      m_most = omega arith;
      option_most = omega arith;
      spare_zero = refl;
    }

-- Kind 0 has neither barrier nor rebate, and no rebate is above its limit.
price_zero : (kind pv state : ℕ) → kind ≡ 0 → barrier_by kind pv state ≡ 0
price_zero kind pv state e = rw (eq-eqb kind 0 e)

rebate_zero : (kind state : ℕ) → kind ≡ 0 → rebate_by kind state ≡ 0
rebate_zero kind state e = rw (eq-eqb kind 0 e)

rebate_most : (kind state : ℕ) → rebate_by kind state ≤ 10_000_000
rebate_most kind state =
    cond_case (λ (n : ℕ). n ≤ 10_000_000) (eqb kind 0) 0 (state % 100) (λ e. omega arith) (λ e. omega arith)

-- The barrier of a kind by the state of its draw, up and down.
module _ (kind pv state : ℕ) where
  up_price : (kind ≡ 1) ⊎ (kind ≡ 3) → barrier_by kind pv state ≡ pv + 1 + state % 1_000
  up_price (inl e) = sym (up_drawn kind pv state (omega arith) (rw (eq-eqb kind 1 e)))
  up_price (inr e) =
      sym (up_drawn kind pv state (omega arith) (rw (ne_eqb kind 1 (λ (q : kind ≡ 1). omega arith), eq-eqb kind 3 e)))

  down_price : (kind ≡ 2) ⊎ (kind ≡ 4) → barrier_by kind pv state ≡ 1 + state % (pv - 1)
  down_price h = sym (down_drawn kind pv state (some h) (both_fail (eqb kind 1) (eqb kind 3) (ne_eqb kind 1 (other_one h)) (ne_eqb kind 3 (other_three h))))
    where
      some : (kind ≡ 2) ⊎ (kind ≡ 4) → 1 ≤ kind
      some (inl e) = omega arith
      some (inr e) = omega arith

      other_one : (kind ≡ 2) ⊎ (kind ≡ 4) → kind ≡ 1 → ⊥
      other_one (inl e) q = omega arith
      other_one (inr e) q = omega arith

      other_three : (kind ≡ 2) ⊎ (kind ≡ 4) → kind ≡ 3 → ⊥
      other_three (inl e) q = omega arith
      other_three (inr e) q = omega arith

  above : (kind ≡ 1) ⊎ (kind ≡ 3) → pv < barrier_by kind pv state
  above h = rw (up_price h) (omega arith)

  module _ (least : 1_000 ≤ pv) where
    below : (kind ≡ 2) ⊎ (kind ≡ 4) → barrier_by kind pv state < pv
    below h = rw (down_price h) (omega (arith, below_pv pv state (omega arith)))

    in_range : pv < 10_000 → 1 ≤ kind → kind < 5 → (1 ≤ barrier_by kind pv state) × (barrier_by kind pv state ≤ 10_000_000)
    in_range most some few = go (lt_or_ge kind 2) (lt_or_ge kind 3) (lt_or_ge kind 4)
      where
        from_up : (kind ≡ 1) ⊎ (kind ≡ 3) → (1 ≤ barrier_by kind pv state) × (barrier_by kind pv state ≤ 10_000_000)
        from_up h = rw (up_price h) (omega arith, omega arith)

        from_down : (kind ≡ 2) ⊎ (kind ≡ 4) → (1 ≤ barrier_by kind pv state) × (barrier_by kind pv state ≤ 10_000_000)
        from_down h = rw (down_price h) (omega arith, omega (arith, below_pv pv state (omega arith)))

        go : (kind < 2) ⊎ (2 ≤ kind) → (kind < 3) ⊎ (3 ≤ kind) → (kind < 4) ⊎ (4 ≤ kind) → (1 ≤ barrier_by kind pv state) × (barrier_by kind pv state ≤ 10_000_000)
        go (inl a) b c = from_up (inl (omega arith))
        go (inr a) (inl b) c = from_down (inl (omega arith))
        go (inr a) (inr b) (inl c) = from_up (inr (omega arith))
        go (inr a) (inr b) (inr c) = from_down (inr (omega arith))

position_within : (k : SeriesRow) (t : ℕ) → 1_000 ≤ k.pv → k.pv < 10_000 → PositionWithin 1 k (position_drawn k.pv t)
unfolding position_drawn
position_within k t least most =
    let kind : ℕ = kind_drawn t in
    let price : ℕ = state_after t 5 in
    record {
      series_below = omega arith;
      side_most = omega arith;
      kind_most = omega arith;
      flags_most = omega arith;
      knocked_in_kind = λ (e : ◌≡◌ {A = ℕ} 0 1). absurd (omega arith);
      knocked_out_kind = λ (e : ◌≡◌ {A = ℕ} 0 1). absurd (omega arith);
      blocked_written = λ e. refl;
      q_least = omega arith;
      q_most = omega arith;
      blocked_most = omega arith;
      pe_least = omega arith;
      pe_most = omega arith;
      reb_most = rebate_most kind (state_after t 6);
      premium_most = omega arith;
      premium_written = λ e. refl;
      pb_none = λ e. refl;
      pb_call = λ (e : ◌≡◌ {A = ℕ} 0 1) c. absurd (omega arith);
      pb_put = λ (e : ◌≡◌ {A = ℕ} 0 1) c. absurd (omega arith);
      price_none = price_zero kind k.pv price;
      reb_none = rebate_zero kind (state_after t 6);
      price_some = λ h. in_range kind k.pv price least most h (omega arith);
      price_above = λ a b h. above kind k.pv price h;
      price_below = λ a b h. below kind k.pv price least h;
    }

pv_drawn : (seed : ℕ) → (1_000 ≤ (series_drawn seed).pv) × ((series_drawn seed).pv < 10_000)
unfolding series_drawn
pv_drawn seed = (omega arith, omega arith)

pub row_within : (seed r : ℕ) → PositionWithin 1 (series_drawn seed) (row_drawn seed r)
row_within seed r = position_within (series_drawn seed) (state_before seed r) (pv_drawn seed).0 (pv_drawn seed).1

-- fb is at most 1, so that the total of a load covers every path (`Demand3.cover`).
pub fb_most : (seed : ℕ) → (series_drawn seed).fb ≤ 1_000_000
unfolding series_drawn
fb_most seed = omega arith
