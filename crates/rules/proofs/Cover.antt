-- The unit margin covers: on every path of its series a position pays at most its unit margin.
-- Assumes nothing.
use Prim.Native.Nat.{ℕ, ◌*◌, ◌≤◌, max}
use mathlib.Core.Bool.{Bool, true, false, cond}
use mathlib.Core.List.{List, [], ◌∷◌}
use mathlib.Core.Path.{◌≡◌, refl}
use borrow.Author.Tests.{le-ltb}
use lib.Dec.{ltb}
use native.Mathlib.Nat.{le_of_lt}
use native.Mathlib.Omega.{arith}
use Rattle.rules.proofs.Mirror.{charge, mirror, rule, worst}
use Rattle.rules.proofs.Payoff.{paid_charged}
use Rattle.rules.proofs.Tests.{ltb_case}
use Rattle.rules.proofs.Touch.{In, down_missed, down_reached_lem, down_rises, every_last, inside, up_falls, up_missed, up_reached_lem}
use Rattle.rules.specs.OnePosition.{normal, unit_by_flag16, unit_margin}
use Rattle.rules.specs.Paths.{Every, Prices, at_or_above, at_or_below, last_or, payment_by_barrier, payment, payment_by_flag16, payoff_at, touched}
use Rattle.rules.specs.Promises.{Covers}
use Rattle.rules.specs.Quantities.{fine, high, low}
use Rattle.rules.specs.declared.Barrier.{Barrier}
use Rattle.rules.specs.declared.Barrier.TheVariants.{NoBarrier, UpIn, DownIn, UpOut, DownOut}
use Rattle.rules.specs.declared.OptionType.{OptionType}
use Rattle.rules.specs.declared.OptionType.TheVariants.{Call, Put}
use Rattle.rules.specs.declared.Position.{Position}
use Rattle.rules.specs.declared.Series.{Series}
use Rattle.rules.specs.declared.Terms.{Terms}

-- The rule of an in barrier in numbers. t: the barrier was touched; i < j: it is out of reach; v is paid at the end and
-- x charged for it; m is MM and r the rebate.
in_≤ :
    (t : Bool) (i j m r v x : ℕ) → (t ≡ true → j ≤ i) → (t ≡ true → v ≤ x)
    → cond t v r ≤ cond (ltb i j) (max m r) (max m (max r x))
in_≤ true i j m r v x f g = rw (le-ltb i j (f refl)) (omega (arith, g refl))
in_≤ false i j m r v x f g = ltb_case (λ y. r ≤ y) i j _ _ (omega arith) (omega arith)

-- The rule of an out barrier. x is charged where the barrier is out of reach, y where it is not.
out_≤ :
    (t : Bool) (i j m r v x y : ℕ) → (t ≡ true → j ≤ i) → (t ≡ false → v ≤ x) → (t ≡ false → v ≤ y)
    → cond t r v ≤ cond (ltb i j) (max m x) (max m (max r y))
out_≤ true i j m r v x y f g h = rw (le-ltb i j (f refl)) (omega arith)
out_≤ false i j m r v x y f g h =
    ltb_case (λ u. v ≤ u) i j _ _ (omega (arith, g refl)) (omega (arith, h refl))

-- A path that starts at a and goes on with l.
module _ (k : OptionType) (s : Series) (p : Terms) (a : ℕ) (l : List ℕ) (path : Prices s (a ∷ l)) where
  within : Every (In (low s) (high s)) (a ∷ l)
  within = inside s (a ∷ l) path

  last_in : In (low s) (high s) (last_or a l)
  last_in = every_last (In (low s) (high s)) a l within

  charged :
      (lo hi : ℕ) → (k ≡ Call → last_or a l ≤ hi) → (k ≡ Put → lo ≤ last_or a l)
      → payoff_at k p (last_or a l) ≤ charge k s p (worst k lo hi)
  charged lo hi c d = paid_charged k s p (last_or a l) lo hi last_in c d

  charged_full : payoff_at k p (last_or a l) ≤ charge k s p (worst k (low s) (high s))
  charged_full = charged (low s) (high s) (λ _. last_in.1) (λ _. last_in.0)

  covers_rule :
      (bar : Barrier) → 1_000_000 ≤ s.fa → ((b : ℕ) → k ≡ Put → bar ≡ UpIn b → s.fb ≤ 1_000_000)
      → payment_by_barrier k bar p (a ∷ l) ≤ rule k bar s p
  covers_rule NoBarrier rise fall = omega (arith, charged_full)
  covers_rule (UpIn b) rise fall =
      in_≤ (touched (at_or_above b) (a ∷ l)) _ _ _ _ _ _ (up_reached_lem (low s) (high s) b (a ∷ l) within)
      (λ e. charged (b * s.fb) (high s) (λ _. last_in.1) (λ c. up_falls s (fall b c refl) b a l path e))
  covers_rule (DownIn b) rise fall =
      in_≤ (touched (at_or_below b) (a ∷ l)) _ _ _ _ _ _ (down_reached_lem (low s) (high s) b (a ∷ l) within)
      (λ e. charged (low s) (b * s.fa) (λ _. down_rises s rise b a l path e) (λ _. last_in.0))
  covers_rule (UpOut b) rise fall =
      out_≤ (touched (at_or_above b) (a ∷ l)) _ _ _ _ _ _ _ (up_reached_lem (low s) (high s) b (a ∷ l) within)
      (λ _. charged_full)
      (λ e. charged (low s) (fine b) (λ _. le_of_lt (up_missed b a l e)) (λ _. last_in.0))
  covers_rule (DownOut b) rise fall =
      out_≤ (touched (at_or_below b) (a ∷ l)) _ _ _ _ _ _ _ (down_reached_lem (low s) (high s) b (a ∷ l) within)
      (λ _. charged_full)
      (λ e. charged (fine b) (high s) (λ _. last_in.1) (λ _. le_of_lt (down_missed b a l e)))

-- The cover of one position. Its only limits are those of the factors: fa at least 1, and for a put that an up barrier
-- has yet to knock in, fb at most 1.
pub covers_long :
    (s : Series) (p : Position) → 1_000_000 ≤ s.fa
    → ((b : ℕ) → s.option ≡ Put → (normal p).barrier ≡ UpIn b → s.fb ≤ 1_000_000) → Covers s p (unit_margin s p)
unfolding payment unit_margin
covers_long s p rise fall [] path = absurd path
covers_long s p rise fall (a ∷ l) path = by_flag p.flags.knockedOut
  where
    by_flag : (t : Bool) → payment_by_flag16 t s.option (normal p) (a ∷ l) ≤ unit_by_flag16 t s (normal p)
    by_flag true = omega arith
    by_flag false =
        let c = covers_rule s.option s (normal p) a l path (normal p).barrier rise fall in
        omega (arith, mirror s.option (normal p).barrier s (normal p))

pub covers :
    (s : Series) (p : Position) → 1_000_000 ≤ s.fa → s.fb ≤ 1_000_000 → Covers s p (unit_margin s p)
covers s p rise fall = covers_long s p rise (λ b c e. fall)
