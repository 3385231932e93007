-- How large numbers of an accepted row get: what keeps the code's sums and products within 64 bits.
-- Assumes nothing.
use Prim.Native.Nat.{ℕ, ◌+◌, ◌/◌, ◌%◌, ◌≤◌, ◌<◌, max}
use mathlib.Core.Bool.{Bool, true, false, cond}
use mathlib.Core.Logic.{◌⊎◌, inl, inr}
use mathlib.Core.Path.{◌≡◌}
use lib.Dec.{ltb}
use native.Mathlib.Nat.{eq-zero-or-pos, mul-le-mul}
use native.Mathlib.Omega.{arith}
use Rattle.rules.proofs.Mirror.{bare, charge, mirror, most, rule}
use Rattle.rules.proofs.Tests.{cond_case, ltb_case}
use Rattle.rules.specs.File.{flags_of, limiter_of, position_of, series_of, terms_of}
use Rattle.rules.specs.Limits.{PositionWithin, SeriesWithin}
use Rattle.rules.specs.OnePosition.{after_flag1, limit_or, normal, rebate, unit_by, unit_by_flag16, unit_margin}
use Rattle.rules.specs.Quantities.{fine, high, low, minimum}
use Rattle.rules.specs.declared.Barrier.{Barrier}
use Rattle.rules.specs.declared.Barrier.TheVariants.{NoBarrier, UpIn, DownIn, UpOut, DownOut}
use Rattle.rules.specs.declared.Limiter.{Limiter}
use Rattle.rules.specs.declared.Limiter.TheVariants.{NoLimiter, At}
use Rattle.rules.specs.declared.OptionType.{OptionType}
use Rattle.rules.specs.declared.OptionType.TheVariants.{Call, Put}
use Rattle.rules.specs.declared.PositionRow.{PositionRow}
use Rattle.rules.specs.declared.Series.{Series}
use Rattle.rules.specs.declared.SeriesRow.{SeriesRow}
use Rattle.rules.specs.declared.Terms.{Terms}

-- No unit margin is above n where MM, REB, PE and the difference of a call's limit in force and PE are not.
module _ (n : ℕ) (s : Series) (p : Terms) (mm : minimum s ≤ n) (reb : rebate p ≤ n) (pe : fine p.pe ≤ n) (pb : limit_or p.limiter (high s) ≤ n + fine p.pe) where
  charge_most : (k : OptionType) (x : ℕ) → charge k s p x ≤ n
  charge_most Call x = omega arith
  charge_most Put x = omega arith

  bare_most : (k : OptionType) (x : ℕ) → bare k s p x ≤ n
  bare_most k x = omega (arith, charge_most k x)

  most_most : (k : OptionType) (x : ℕ) → most k s p x ≤ n
  most_most k x = omega (arith, charge_most k x)

  rebate_most : max (minimum s) (rebate p) ≤ n
  rebate_most = omega arith

  either_most : (i j x y : ℕ) → x ≤ n → y ≤ n → cond (ltb i j) x y ≤ n
  either_most i j x y h g = ltb_case (λ u. u ≤ n) i j x y (λ _. h) (λ _. g)

  rule_most : (k : OptionType) (bar : Barrier) → rule k bar s p ≤ n
  rule_most k NoBarrier = most_most k _
  rule_most k (UpIn b) = either_most (high s) (fine b) _ _ rebate_most (most_most k _)
  rule_most k (DownIn b) = either_most (fine b) (low s) _ _ rebate_most (most_most k _)
  rule_most k (UpOut b) = either_most (high s) (fine b) _ _ (bare_most k _) (most_most k _)
  rule_most k (DownOut b) = either_most (fine b) (low s) _ _ (bare_most k _) (most_most k _)

zero_or_one : (x : ℕ) → x ≤ 1 → (x ≡ 0) ⊎ (x ≡ 1)
zero_or_one x h = go (eq-zero-or-pos x)
  where
    go : (x ≡ 0) ⊎ (0 < x) → (x ≡ 0) ⊎ (x ≡ 1)
    go (inl z) = inl z
    go (inr z) = inr (omega arith)

module _ {n : ℕ} {k : SeriesRow} {r : PositionRow} (s : SeriesWithin k) (w : PositionWithin n k r) where
  pub high_most : high (series_of k) ≤ 100_000_000_000_000
  high_most = mul-le-mul s.pv_most s.fa_most

  minimum_most : minimum (series_of k) ≤ 10_000_000_000_000
  minimum_most = mul-le-mul s.f3_most s.pv_most

  pb_most : r.pb ≤ 10_000_000
  pb_most = go (zero_or_one (r.flags / 2 % 2) (omega arith)) (zero_or_one k.option s.option_most)
    where
      go : (r.flags / 2 % 2 ≡ 0) ⊎ (r.flags / 2 % 2 ≡ 1) → (k.option ≡ 0) ⊎ (k.option ≡ 1) → r.pb ≤ 10_000_000
      go (inl z) o = omega (arith, w.pb_none z)
      go (inr z) (inl o) = omega (arith, w.pb_call z o)
      go (inr z) (inr o) = omega (arith, w.pb_put z o, w.pe_most)

  limit_most : limit_or (limiter_of (flags_of r.flags).limited r.pb) (high (series_of k)) ≤ 100_000_000_000_000
  limit_most =
      cond_case (λ (m : Limiter). limit_or m (high (series_of k)) ≤ 100_000_000_000_000) (flags_of r.flags).limited (At r.pb) NoLimiter
      (λ _. omega (arith, pb_most)) (λ _. high_most)

  -- A unit margin is at most 99,999,999 ticks: H at the largest PV and fa, less the least PE.
  pub unit_most : unit_margin (series_of k) (position_of r) ≤ 99_999_999_000_000
  unfolding unit_margin
  unit_most = by_flag_16 (position_of r).flags.knockedOut
    where
      rebate_most : (t : Bool) → rebate (after_flag1 t (terms_of r)) ≤ 99_999_999_000_000
      rebate_most true = omega arith
      rebate_most false = omega (arith, w.reb_most)

      by_flag : (t : Bool) → unit_by (series_of k).option (after_flag1 t (terms_of r)).barrier (series_of k) (after_flag1 t (terms_of r)) ≤ 99_999_999_000_000
      by_flag true =
          rw mirror
          (rule_most 99_999_999_000_000 (series_of k) (after_flag1 true (terms_of r)) (omega (arith, minimum_most)) (omega arith) (omega (arith, w.pe_most)) (omega (arith, limit_most, w.pe_least)) (series_of k).option NoBarrier)
      by_flag false =
          rw mirror
          (rule_most 99_999_999_000_000 (series_of k) (terms_of r) (omega (arith, minimum_most)) (omega (arith, w.reb_most)) (omega (arith, w.pe_most)) (omega (arith, limit_most, w.pe_least)) (series_of k).option (terms_of r).barrier)

      by_flag_16 : (t : Bool) → unit_by_flag16 t (series_of k) (normal (position_of r)) ≤ 99_999_999_000_000
      by_flag_16 true = rebate_most (position_of r).flags.knockedIn
      by_flag_16 false = by_flag (position_of r).flags.knockedIn
