-- One row after a day: its flags bit by bit, that it keeps its limits beside the new PV, and that the same day again finds its
-- flags as it would set them.
-- Assumes nothing.
use Prim.Native.Nat.{ℕ, ◌/◌, ◌%◌, ◌≤◌, ◌<◌}
use mathlib.Core.Bool.{Bool, true, false, cond, ◌||◌, or-false, or-true, true≢false}
use mathlib.Core.Logic.{◌⊎◌, inl, inr}
use mathlib.Core.Path.{◌≡◌, refl, sym, ◌∙◌, ap}
use native.Mathlib.Omega.{arith}
use borrow.Author.Tests.{eq-eqb, leb-false}
use lib.Dec.{eqb, leb}
use Rattle.rules.proofs.Fields.{with_flags, with_pv}
use Rattle.rules.proofs.RowFacts.{by_kind}
use Rattle.rules.proofs.Tests.{cond_case}
use Rattle.rules.specs.Day.{DayWithin, crossed_in, crossed_out, flags_after, flags_crossed, flags_of_day, with_flag1, with_flag16}
use Rattle.rules.specs.File.{barrier_of, flags_of, position_of}
use Rattle.rules.specs.Limits.{PositionWithin, SeriesWithin}
use Rattle.rules.specs.declared.Barrier.{Barrier}
use Rattle.rules.specs.declared.Barrier.TheVariants.{NoBarrier, UpIn, DownIn, UpOut, DownOut}
use Rattle.rules.specs.declared.Day.{Day}
use Rattle.rules.specs.declared.Flags.{Flags}
use Rattle.rules.specs.declared.PositionRow.{PositionRow}
use Rattle.rules.specs.declared.SeriesRow.{SeriesRow}

-- ---- the flags bit by bit

-- Flag 1 set leaves the other bits; flag 16 set leaves those below it.
module _ (f : ℕ) where
  half_1 : with_flag1 f / 2 ≡ f / 2
  half_1 = omega arith

  above_1 : (n : ℕ) → with_flag1 f / 2 / n ≡ f / 2 / n
  above_1 n = ap (λ (x : ℕ). x / n) half_1

  bits_1 : (with_flag1 f % 2 ≡ 1) × (with_flag1 f / 2 % 2 ≡ f / 2 % 2) × (with_flag1 f / 4 % 2 ≡ f / 4 % 2) × (with_flag1 f / 8 % 2 ≡ f / 8 % 2) × (with_flag1 f / 16 % 2 ≡ f / 16 % 2)
  bits_1 =
      let e4 : with_flag1 f / 4 ≡ with_flag1 f / 2 / 2 = omega arith in
      let g4 : f / 4 ≡ f / 2 / 2 = omega arith in
      let e8 : with_flag1 f / 8 ≡ with_flag1 f / 2 / 4 = omega arith in
      let g8 : f / 8 ≡ f / 2 / 4 = omega arith in
      let e16 : with_flag1 f / 16 ≡ with_flag1 f / 2 / 8 = omega arith in
      let g16 : f / 16 ≡ f / 2 / 8 = omega arith in
      (omega arith, omega (arith, half_1), omega (arith, above_1 2), omega (arith, above_1 4), omega (arith, above_1 8))

  bits_16 : (with_flag16 f % 2 ≡ f % 2) × (with_flag16 f / 2 % 2 ≡ f / 2 % 2) × (with_flag16 f / 4 % 2 ≡ f / 4 % 2) × (with_flag16 f / 8 % 2 ≡ f / 8 % 2) × (with_flag16 f / 16 % 2 ≡ 1)
  bits_16 = (omega arith, omega arith, omega arith, omega arith, omega arith)

-- Flags g with flag 1 where `inward` holds and flag 16 where `outward` does, beside those that are there.
abbrev crossed_bits : ℕ → Bool → Bool → Flags
crossed_bits g inward outward =
    record {
      knockedIn = (flags_of g).knockedIn || inward;
      limited = (flags_of g).limited;
      european = (flags_of g).european;
      beforeAnnex = (flags_of g).beforeAnnex;
      knockedOut = (flags_of g).knockedOut || outward;
    }

bit_set : (n : ℕ) (was : Bool) → n ≡ 1 → eqb n 1 ≡ (was || true)
bit_set n was e = eq-eqb n 1 e ∙ sym (or-true was)

bit_kept : (n m : ℕ) → n ≡ m → eqb n 1 ≡ (eqb m 1 || false)
bit_kept n m e = ap (λ (x : ℕ). eqb x 1) e ∙ sym (or-false (eqb m 1))

-- Of a barrier at most one of the two is crossed.
apart : (d : Day) (bar : Barrier) → (crossed_in d bar ≡ false) ⊎ (crossed_out d bar ≡ false)
apart d NoBarrier = inl refl
apart d (UpIn iu) = inr refl
apart d (DownIn id) = inr refl
apart d (UpOut ou) = inl refl
apart d (DownOut od) = inl refl

crossed_bits_lem : (f : ℕ) (x y : Bool) → (x ≡ false) ⊎ (y ≡ false) → flags_of (cond x (with_flag1 f) (cond y (with_flag16 f) f)) ≡ crossed_bits f x y
crossed_bits_lem f false false z =
    rw (or-false (flags_of f).knockedIn, or-false (flags_of f).knockedOut) refl
crossed_bits_lem f true false z =
    let k = bits_1 f in
    rw (bit_set (with_flag1 f % 2) (flags_of f).knockedIn k.0, k.1, k.2, k.3, bit_kept (with_flag1 f / 16 % 2) (f / 16 % 2) k.4) refl
crossed_bits_lem f false true z =
    let k = bits_16 f in
    rw (bit_kept (with_flag16 f % 2) (f % 2) k.0, k.1, k.2, k.3, bit_set (with_flag16 f / 16 % 2) (flags_of f).knockedOut k.4) refl
crossed_bits_lem f true true (inl e) = absurd (true≢false e)
crossed_bits_lem f true true (inr e) = absurd (true≢false e)

-- The flags of a row of the day's series, said of bits: each is set where it was or its barrier was crossed.
pub flags_are : (d : Day) (r : PositionRow) → flags_of (flags_crossed d (barrier_of r.kind r.price) r.flags) ≡ flags_of_day d (position_of r)
flags_are d r =
    let bar : Barrier = barrier_of r.kind r.price in
    crossed_bits_lem r.flags (crossed_in d bar) (crossed_out d bar) (apart d bar)

-- The same day again finds the flags as it would set them.
pub flags_again : (d : Day) (r : PositionRow) → flags_after d (with_flags (flags_after d r) r) ≡ flags_after d r
unfolding flags_after
flags_again d r =
    let bar : Barrier = barrier_of r.kind r.price in
    go (eqb r.series d.series) (crossed_in d bar) (crossed_out d bar) r.flags
  where
    go : (own x y : Bool) (f : ℕ) →
        (let g : ℕ = cond own (cond x (with_flag1 f) (cond y (with_flag16 f) f)) f in cond own (cond x (with_flag1 g) (cond y (with_flag16 g) g)) g ≡ g)
    go true true y f = omega arith
    go true false true f = omega arith
    go true false false f = refl
    go false x y f = refl

-- ---- the limits

pub pv_within : (k : SeriesRow) (v : ℕ) → 1 ≤ v → v ≤ 10_000_000 → SeriesWithin k → SeriesWithin (with_pv v k)
pv_within k v least most h =
    record {
      pv_least = least;
      pv_most = most;
      fa_least = h.fa_least;
      fa_most = h.fa_most;
      fb_most = h.fb_most;
      f3_most = h.f3_most;
      m_least = h.m_least;
      m_most = h.m_most;
      option_most = h.option_most;
      spare_zero = h.spare_zero;
    }

-- What new flags f have to keep of a row within its limits, beside a new PV.
record Kept (pv : ℕ) (r : PositionRow) (f : ℕ) : Type 0 where
  most : f ≤ 31
  limiter : f / 2 % 2 ≡ r.flags / 2 % 2
  knocked_in : f % 2 ≡ 1 → (1 ≤ r.kind) × (r.kind ≤ 2)
  knocked_out : f / 16 % 2 ≡ 1 → (3 ≤ r.kind) × (r.kind ≤ 4)
  above : f % 2 ≡ 0 → f / 16 % 2 ≡ 0 → (r.kind ≡ 1) ⊎ (r.kind ≡ 3) → pv < r.price
  below : f % 2 ≡ 0 → f / 16 % 2 ≡ 0 → (r.kind ≡ 2) ⊎ (r.kind ≡ 4) → r.price < pv

kept_within : (s : ℕ) (k : SeriesRow) (r : PositionRow) (pv f : ℕ) → PositionWithin s k r → Kept pv r f → PositionWithin s (with_pv pv k) (with_flags f r)
kept_within s k r pv f h g =
    record {
      series_below = h.series_below;
      side_most = h.side_most;
      kind_most = h.kind_most;
      flags_most = g.most;
      knocked_in_kind = g.knocked_in;
      knocked_out_kind = g.knocked_out;
      blocked_written = h.blocked_written;
      q_least = h.q_least;
      q_most = h.q_most;
      blocked_most = h.blocked_most;
      pe_least = h.pe_least;
      pe_most = h.pe_most;
      reb_most = h.reb_most;
      premium_most = h.premium_most;
      premium_written = h.premium_written;
      pb_none = λ z. h.pb_none (sym g.limiter ∙ z);
      pb_call = λ z. h.pb_call (sym g.limiter ∙ z);
      pb_put = λ z. h.pb_put (sym g.limiter ∙ z);
      price_none = h.price_none;
      reb_none = h.reb_none;
      price_some = h.price_some;
      price_above = g.above;
      price_below = g.below;
    }

module _ (s : ℕ) (k : SeriesRow) (r : PositionRow) (h : PositionWithin s k r) (d : Day) (n : ℕ) (w : DayWithin n d) where
  -- Flag 1 set, on kinds 1 and 2, and flag 16 set, on kinds 3 and 4: the side of PV is not asked.
  kept_in : (1 ≤ r.kind) × (r.kind ≤ 2) → Kept d.close r (with_flag1 r.flags)
  kept_in kinds =
      let bits = bits_1 r.flags in
      record {
        most = omega (arith, h.flags_most);
        limiter = bits.1;
        knocked_in = λ z. kinds;
        knocked_out = λ z. h.knocked_out_kind (sym bits.4 ∙ z);
        above = λ z y u. absurd (omega (arith, bits.0));
        below = λ z y u. absurd (omega (arith, bits.0));
      }

  kept_out : (3 ≤ r.kind) × (r.kind ≤ 4) → Kept d.close r (with_flag16 r.flags)
  kept_out kinds =
      let bits = bits_16 r.flags in
      record {
        most = omega (arith, h.flags_most);
        limiter = bits.1;
        knocked_in = λ z. h.knocked_in_kind (sym bits.0 ∙ z);
        knocked_out = λ z. kinds;
        above = λ z y u. absurd (omega (arith, bits.4));
        below = λ z y u. absurd (omega (arith, bits.4));
      }

  -- The flags as they were: the day did not touch the barrier, so that the close is on the same side of it as PV was.
  kept_as_is : ((r.kind ≡ 1) ⊎ (r.kind ≡ 3) → d.close < r.price) → ((r.kind ≡ 2) ⊎ (r.kind ≡ 4) → r.price < d.close) → Kept d.close r r.flags
  kept_as_is up down =
      record {
        most = h.flags_most;
        limiter = refl;
        knocked_in = h.knocked_in_kind;
        knocked_out = h.knocked_out_kind;
        above = λ z y. up;
        below = λ z y. down;
      }

  -- A row whose kind is m is of no other kind.
  other_kinds : {A : Type 0} (m x y : ℕ) → r.kind ≡ m → (m ≡ x → ⊥) → (m ≡ y → ⊥) → (r.kind ≡ x) ⊎ (r.kind ≡ y) → A
  other_kinds m x y e p q (inl u) = absurd (p (sym e ∙ u))
  other_kinds m x y e p q (inr u) = absurd (q (sym e ∙ u))

  -- A barrier that the day did not reach is beyond the close.
  up_missed : leb r.price d.high ≡ false → d.close < r.price
  up_missed e = omega (arith, leb-false r.price d.high e, w.close_most)

  down_missed : leb d.low r.price ≡ false → r.price < d.close
  down_missed e = omega (arith, leb-false d.low r.price e, w.close_least)

  crossed_kept : Kept d.close r (flags_crossed d (barrier_of r.kind r.price) r.flags)
  crossed_kept =
      by_kind (λ bar. Kept d.close r (flags_crossed d bar r.flags)) r.kind r.price h.kind_most
      (λ e. kept_as_is (other_kinds 0 1 3 e (λ q. omega arith) (λ q. omega arith)) (other_kinds 0 2 4 e (λ q. omega arith) (λ q. omega arith)))
      (λ e. cond_case (Kept d.close r) (leb r.price d.high) _ _ (λ t. kept_in (omega arith))
      (λ t. kept_as_is (λ u. up_missed t) (other_kinds 1 2 4 e (λ q. omega arith) (λ q. omega arith))))
      (λ e. cond_case (Kept d.close r) (leb d.low r.price) _ _ (λ t. kept_in (omega arith))
      (λ t. kept_as_is (other_kinds 2 1 3 e (λ q. omega arith) (λ q. omega arith)) (λ u. down_missed t)))
      (λ e. cond_case (Kept d.close r) (leb r.price d.high) _ _ (λ t. kept_out (omega arith))
      (λ t. kept_as_is (λ u. up_missed t) (other_kinds 3 2 4 e (λ q. omega arith) (λ q. omega arith))))
      (λ e. cond_case (Kept d.close r) (leb d.low r.price) _ _ (λ t. kept_out (omega arith))
      (λ t. kept_as_is (other_kinds 4 1 3 e (λ q. omega arith) (λ q. omega arith)) (λ u. down_missed t)))

  -- A row of the day's series, beside the close as its PV, is within its limits.
  pub row_within : PositionWithin s (with_pv d.close k) (with_flags (flags_crossed d (barrier_of r.kind r.price) r.flags) r)
  row_within = kept_within s k r d.close (flags_crossed d (barrier_of r.kind r.price) r.flags) h crossed_kept
