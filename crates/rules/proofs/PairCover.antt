-- A pair covers: on every path the written row pays at most the spread margin and what the held row pays.
-- Assumes nothing.
use Prim.Native.Nat.{ℕ, ◌+◌, ◌-◌, ◌≤◌}
use mathlib.Core.Bool.{Bool, true, false, cond, true≢false, false≢true}
use mathlib.Core.List.{List, [], ◌∷◌}
use mathlib.Core.Logic.{⊎_elim}
use mathlib.Core.Path.{◌≡◌, refl, ap}
use borrow.Author.Tests.{eqb-true, le-leb, leb-true, ltb-false}
use lib.Dec.{eqb, leb}
use native.Mathlib.Nat.{le_of_lt}
use native.Mathlib.Omega.{arith}
use Rattle.rules.proofs.Flag16.{payment_without}
use Rattle.rules.proofs.SameRows.{of_kind, same_paid}
use Rattle.rules.proofs.SpreadForms.{spread_made}
use Rattle.rules.proofs.Tests.{cond_case}
use Rattle.rules.proofs.Touch.{In, down_further, down_missed, down_reached_lem, every_last, inside, up_further, up_missed, up_reached_lem}
use Rattle.rules.specs.File.{barrier_of}
use Rattle.rules.specs.OnePosition.{normal}
use Rattle.rules.specs.Paths.{Every, IsPath, at_or_above, at_or_below, capped, floored, last_or, payment_by_barrier, payment, payoff_at, touched}
use Rattle.rules.specs.Quantities.{fine, high, low}
use Rattle.rules.specs.Spreads.{down_out_spread, down_reached, kind_of, limiter_bars, one_kind_spread, D, out_spread, price_of, same, spread_between, strike_covers, strike_loss, unit_spread, up_out_spread, up_reached}
use Rattle.rules.specs.declared.Barrier.{Barrier}
use Rattle.rules.specs.declared.Barrier.TheVariants.{NoBarrier, UpIn, DownIn, UpOut, DownOut}
use Rattle.rules.specs.declared.Limiter.{Limiter}
use Rattle.rules.specs.declared.Limiter.TheVariants.{NoLimiter, At}
use Rattle.rules.specs.declared.OptionType.{OptionType}
use Rattle.rules.specs.declared.OptionType.TheVariants.{Call, Put}
use Rattle.rules.specs.declared.Position.{Position}
use Rattle.rules.specs.declared.Series.{Series}
use Rattle.rules.specs.declared.Terms.{Terms}
use Rattle.std.specs.Prelude.{Option, Some, None}

-- The spread and the held payment y cover the written payment x. Where there is no pair nothing is asked.
abbrev Covered : Option ℕ → ℕ → ℕ → Type 0
Covered None x y = Unit {0}
Covered (Some u) x y = x ≤ u + y

cond_covered :
    (t : Bool) (m n : Option ℕ) (x y : ℕ) → (t ≡ true → Covered m x y) → (t ≡ false → Covered n x y)
    → Covered (cond t m n) x y
cond_covered t m n x y f g = cond_case (λ c. Covered c x y) t m n f g

-- Limiters h and w that do not bar a pair: at the price z the written row's payoff is cut at least as much as the held
-- row's, and the written row pays no more than it would without a limiter.
abbrev Cut : OptionType → Limiter → Limiter → ℕ → Type 0
Cut Call h w z = (capped w z ≤ capped h z) × (capped w z ≤ z)
Cut Put h w z = (floored h z ≤ floored w z) × (z ≤ floored w z)

unbarred : (k : OptionType) (h w : Limiter) (z : ℕ) → limiter_bars k h w ≡ false → Cut k h w z
unbarred Call NoLimiter NoLimiter z e = omega arith
unbarred Put NoLimiter NoLimiter z e = omega arith
unbarred Call NoLimiter (At pbw) z e = omega arith
unbarred Put NoLimiter (At pbw) z e = omega arith
unbarred k (At pbh) NoLimiter z e = absurd (true≢false e)
unbarred Call (At pbh) (At pbw) z e = let o = ltb-false pbh pbw e in omega arith
unbarred Put (At pbh) (At pbw) z e = let o = ltb-false pbw pbh e in omega arith

-- Payoffs at one price.
module _ (h w : Terms) (z : ℕ) where
  strike_owes :
      (k : OptionType) → Cut k h.limiter w.limiter z → payoff_at k w z ≤ strike_loss k h w + payoff_at k h z
  strike_owes Call c = omega arith
  strike_owes Put c = omega arith

  strike_covers_lem :
      (k : OptionType) → Cut k h.limiter w.limiter z → strike_covers k h w ≡ true → payoff_at k w z ≤ payoff_at k h z
  strike_covers_lem Call c e = omega (arith, leb-true h.pe w.pe e)
  strike_covers_lem Put c e = omega (arith, leb-true w.pe h.pe e)

  out_owes :
      (k : OptionType) (lo hi : ℕ) → Cut k h.limiter w.limiter z → In lo hi z
      → payoff_at k w z ≤ D k lo hi h w + payoff_at k h z
  out_owes Call lo hi c i = omega arith
  out_owes Put lo hi c i = omega arith

-- The rule of two out barriers in numbers. The written barrier was touched: r is owed. Neither was: a written payoff v
-- is owed against a held payoff y, by the strikes or up to d.
out_rebate : (covers : Bool) (s : Series) (r d : ℕ) → r ≤ out_spread covers true s r d
out_rebate true s r d = omega arith
out_rebate false s r d = omega arith

out_payoff :
    (covers reached : Bool) (s : Series) (r d v y : ℕ) → (covers ≡ true → v ≤ y) → v ≤ d + y
    → v ≤ out_spread covers reached s r d + y
out_payoff true reached s r d v y e f = omega (arith, e refl)
out_payoff false true s r d v y e f = omega arith
out_payoff false false s r d v y e f = omega arith

-- R is owed for the written rebate b, against the held rebate c where the barriers are equal.
rebate_owes :
    (equal th : Bool) (b c y : ℕ) → (equal ≡ true → th ≡ true) → b ≤ cond equal (b - c) b + cond th c y
rebate_owes true true b c y e = omega arith
rebate_owes true false b c y e = absurd (false≢true (e refl))
rebate_owes false th b c y e = omega arith

-- tw and th: the written and the held barrier were touched.
out_pair :
    (tw th equal covers reached : Bool) (s : Series) (b c d v y : ℕ)
    → (tw ≡ true → reached ≡ true) → (tw ≡ false → th ≡ true → ⊥) → (equal ≡ true → th ≡ tw)
    → (covers ≡ true → v ≤ y) → (tw ≡ false → v ≤ d + y)
    → cond tw b v ≤ out_spread covers reached s (cond equal (b - c) b) d + cond th c y
out_pair true th equal covers reached s b c d v y f g i j m =
    rw (f refl) (omega (arith, out_rebate covers s (cond equal (b - c) b) d, rebate_owes equal th b c y i))
out_pair false true equal covers reached s b c d v y f g i j m = absurd (g refl refl)
out_pair false false equal covers reached s b c d v y f g i j m =
    out_payoff covers reached s (cond equal (b - c) b) d v y j (m refl)

-- A held row h and a written row w on a path that starts at a and goes on with l.
module _ (s : Series) (h w : Terms) (a : ℕ) (l : List ℕ) (within : Every (In (low s) (high s)) (a ∷ l)) where
  last_in : In (low s) (high s) (last_or a l)
  last_in = every_last (In (low s) (high s)) a l within

  -- The last price where the written barrier was not touched: the H or L in force bounds it.
  up_bounds :
      (ouw : ℕ) → touched (at_or_above ouw) (a ∷ l) ≡ false
      → In (low s) (cond (up_reached s ouw) (fine ouw) (high s)) (last_or a l)
  up_bounds ouw e =
      cond_case (λ y. In (low s) y (last_or a l)) (up_reached s ouw) (fine ouw) (high s)
      (λ _. (last_in.0, le_of_lt (up_missed ouw a l e))) (λ _. last_in)

  down_bounds :
      (odw : ℕ) → touched (at_or_below odw) (a ∷ l) ≡ false
      → In (cond (down_reached s odw) (fine odw) (low s)) (high s) (last_or a l)
  down_bounds odw e =
      cond_case (λ y. In y (high s) (last_or a l)) (down_reached s odw) (fine odw) (low s)
      (λ _. (le_of_lt (down_missed odw a l e), last_in.1)) (λ _. last_in)

  -- Barriers of one kind, the written row's and the held row's price.
  module _ (cut : Cut s.option h.limiter w.limiter (last_or a l)) where
    up_out_lem :
        (ouh ouw : ℕ) → ouw ≤ ouh
        → payment_by_barrier s.option (UpOut ouw) w (a ∷ l) ≤ up_out_spread s ouh ouw h w + payment_by_barrier s.option (UpOut ouh) h (a ∷ l)
    up_out_lem ouh ouw o =
        out_pair (touched (at_or_above ouw) (a ∷ l)) (touched (at_or_above ouh) (a ∷ l)) (eqb ouh ouw) _ _ s _ _ _ _ _
        (λ e. le-leb (fine ouw) (high s) (up_reached_lem (low s) (high s) ouw (a ∷ l) within e))
        (up_further ouw ouh o (a ∷ l))
        (λ e. ap (λ b. touched (at_or_above b) (a ∷ l)) (eqb-true ouh ouw e))
        (strike_covers_lem h w (last_or a l) s.option cut)
        (λ e. out_owes h w (last_or a l) s.option _ _ cut (up_bounds ouw e))

    down_out :
        (odh odw : ℕ) → odh ≤ odw
        → payment_by_barrier s.option (DownOut odw) w (a ∷ l) ≤ down_out_spread s odh odw h w + payment_by_barrier s.option (DownOut odh) h (a ∷ l)
    down_out odh odw o =
        out_pair (touched (at_or_below odw) (a ∷ l)) (touched (at_or_below odh) (a ∷ l)) (eqb odh odw) _ _ s _ _ _ _ _
        (λ e. le-leb (low s) (fine odw) (down_reached_lem (low s) (high s) odw (a ∷ l) within e))
        (down_further odh odw o (a ∷ l))
        (λ e. ap (λ b. touched (at_or_below b) (a ∷ l)) (eqb-true odh odw e))
        (strike_covers_lem h w (last_or a l) s.option cut)
        (λ e. out_owes h w (last_or a l) s.option _ _ cut (down_bounds odw e))

    one_kind :
        (bar : Barrier) (price : ℕ)
        → Covered (one_kind_spread bar price s h w) (payment_by_barrier s.option bar w (a ∷ l))
        (payment_by_barrier s.option (barrier_of (kind_of bar) price) h (a ∷ l))
    one_kind NoBarrier price = strike_owes h w (last_or a l) s.option cut
    one_kind (UpIn iuw) price = tt
    one_kind (DownIn idw) price = tt
    one_kind (UpOut ouw) ouh =
        cond_covered (leb ouw ouh) _ _ _ _ (λ e. up_out_lem ouh ouw (leb-true ouw ouh e)) (λ _. tt)
    one_kind (DownOut odw) odh =
        cond_covered (leb odh odw) _ _ _ _ (λ e. down_out odh odw (leb-true odh odw e)) (λ _. tt)

  -- Two normalised rows with a spread: identical ones, or by the rule of their one kind of barrier.
  spread_covered :
      (u : ℕ) → spread_between s h w ≡ Some u
      → payment_by_barrier s.option w.barrier w (a ∷ l) ≤ u + payment_by_barrier s.option h.barrier h (a ∷ l)
  spread_covered u e =
      ⊎_elim (λ (z : same h w ≡ true). omega (arith, same_paid s.option h w (a ∷ l) z))
      (λ t. rw t.2 at (rw (of_kind h.barrier w.barrier t.1) at
      (one_kind (unbarred s.option h.limiter w.limiter (last_or a l) t.0) w.barrier (price_of h.barrier))))
      (spread_made s h w u e)

-- The cover of one pair, of any two rows of any series that have no flag 16.
pub pair_covers :
    (s : Series) (h w : Position) (u : ℕ) → h.flags.knockedOut ≡ false → w.flags.knockedOut ≡ false → unit_spread s h w ≡ Some u
    → (path : List ℕ) → IsPath s path → payment s w path ≤ u + payment s h path
unfolding unit_spread
pair_covers s h w u held written e [] path = absurd path
pair_covers s h w u held written e (a ∷ l) path =
    rw (payment_without s w written (a ∷ l), payment_without s h held (a ∷ l))
    (spread_covered s (normal h) (normal w) a l (inside s (a ∷ l) path) u e)
