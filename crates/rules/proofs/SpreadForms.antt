-- What two rows with a spread are like, and the spread rule in the order that costs least: identical rows are asked for only
-- where no other rows pair, since elsewhere the rules give them 0 by themselves.
-- Assumes nothing.
use Prim.Native.Nat.{ℕ, ◌-◌}
use mathlib.Core.Bool.{Bool, true, false, cond, false≢true, true≢false}
use mathlib.Core.Logic.{◌⊎◌, inl, inr, ⊎_elim}
use mathlib.Core.Path.{◌≡◌, refl, sym, ap, ◌∙◌}
use native.Mathlib.Nat.{le_refl}
use native.Mathlib.Omega.{arith}
use borrow.Author.Tests.{eq-eqb, le-leb, le-ltb}
use lib.Dec.{eqb}
use Rattle.rules.proofs.SameRows.{same_terms_lem}
use Rattle.rules.specs.OnePosition.{rebate}
use Rattle.rules.specs.Quantities.{fine, high, low}
use Rattle.rules.specs.Spreads.{D, down_reached, kind_of, limiter_bars, one_kind_spread, out_spread, price_of, same, spread_between, strike_covers, strike_loss, up_reached}
use Rattle.rules.specs.declared.Barrier.{Barrier}
use Rattle.rules.specs.declared.Barrier.TheVariants.{NoBarrier, UpIn, DownIn, UpOut, DownOut}
use Rattle.rules.specs.declared.Limiter.{Limiter}
use Rattle.rules.specs.declared.Limiter.TheVariants.{NoLimiter, At}
use Rattle.rules.specs.declared.OptionType.{OptionType}
use Rattle.rules.specs.declared.OptionType.TheVariants.{Call, Put}
use Rattle.rules.specs.declared.Series.{Series}
use Rattle.rules.specs.declared.Terms.{Terms}
use Rattle.std.specs.Prelude.{Option, Some, None}

-- Whether a barrier is up-and-in or down-and-in.
abbrev pub knock_in : Barrier → Bool
knock_in NoBarrier = false
knock_in (UpIn price) = true
knock_in (DownIn price) = true
knock_in (UpOut price) = false
knock_in (DownOut price) = false

-- A row beside itself: its limiter does not bar, its strike covers, it loses nothing.
self_unbarred : (k : OptionType) (l : Limiter) → limiter_bars k l l ≡ false
self_unbarred k NoLimiter = refl
self_unbarred Call (At pb) = le-ltb pb pb (le_refl pb)
self_unbarred Put (At pb) = le-ltb pb pb (le_refl pb)

self_loss : (k : OptionType) (t : Terms) → strike_loss k t t ≡ 0
self_loss Call t = omega arith
self_loss Put t = omega arith

self_covers : (k : OptionType) (t : Terms) → strike_covers k t t ≡ true
self_covers Call t = le-leb t.pe t.pe (le_refl t.pe)
self_covers Put t = le-leb t.pe t.pe (le_refl t.pe)

self_out : (reachable : Bool) (s : Series) (r d : ℕ) → r ≡ 0 → out_spread true reachable s r d ≡ 0
self_out true s r d e = e
self_out false s r d e = refl

nothing_left : (n : ℕ) → n - n ≡ 0
nothing_left n = omega arith

self_spread : (b : Barrier) (s : Series) (t : Terms) → knock_in b ≡ false → one_kind_spread b (price_of b) s t t ≡ Some 0
self_spread NoBarrier s t n = ap Some (self_loss s.option t)
self_spread (UpIn price) s t n = absurd (true≢false n)
self_spread (DownIn price) s t n = absurd (true≢false n)
self_spread (UpOut price) s t n =
    rw (le-leb price price (le_refl price), eq-eqb price price refl, self_covers s.option t)
    (ap Some (self_out (up_reached s price) s (rebate t - rebate t) (D s.option (low s) (cond (up_reached s price) (fine price) (high s)) t t) (nothing_left (rebate t))))
self_spread (DownOut price) s t n =
    rw (le-leb price price (le_refl price), eq-eqb price price refl, self_covers s.option t)
    (ap Some (self_out (down_reached s price) s (rebate t - rebate t) (D s.option (cond (down_reached s price) (fine price) (low s)) (high s) t t) (nothing_left (rebate t))))

-- The limiters of identical rows bar no pair.
same_unbarred : (k : OptionType) (h w : Terms) → same h w ≡ true → limiter_bars k h.limiter w.limiter ≡ false
same_unbarred k h w e = ap (λ (t : Terms). limiter_bars k t.limiter w.limiter) (same_terms_lem h w e) ∙ self_unbarred k w.limiter

-- A barred pair has no spread.
pub barred : (u : ℕ) {A : Type 0} → None ≡ Some u → A
barred u e = let z : ◌≡◌ {A = ℕ} 0 1 = cc in absurd (omega arith)

-- Two rows with a spread: identical ones, or rows with barriers of one kind whose rule gives it. No limiter bars them.
module _ (s : Series) (h w : Terms) (u : ℕ) (e : spread_between s h w ≡ Some u) where
  pub spread_made :
      (same h w ≡ true)
      ⊎ ((limiter_bars s.option h.limiter w.limiter ≡ false)
      × (eqb (kind_of h.barrier) (kind_of w.barrier) ≡ true)
      × (one_kind_spread w.barrier (price_of h.barrier) s h w ≡ Some u))
  spread_made =
      go (same h w) (limiter_bars s.option h.limiter w.limiter) (eqb (kind_of h.barrier) (kind_of w.barrier)) e
    where
      go : (x y z : Bool)
          → cond x (Some 0) (cond y None (cond z (one_kind_spread w.barrier (price_of h.barrier) s h w) None)) ≡ Some u
          → (x ≡ true) ⊎ ((y ≡ false) × (z ≡ true) × (one_kind_spread w.barrier (price_of h.barrier) s h w ≡ Some u))
      go true y z q = inl refl
      go false true z q = barred u q
      go false false true q = inr (refl, refl, q)
      go false false false q = barred u q

  pub made_unbarred : limiter_bars s.option h.limiter w.limiter ≡ false
  made_unbarred = ⊎_elim (same_unbarred s.option h w) (λ t. t.0) spread_made

-- The rule, test by test.
module _ (s : Series) (h w : Terms) where
  -- The limiters bar the pair: then the rows are not identical.
  pub limiter_barred : limiter_bars s.option h.limiter w.limiter ≡ true → None ≡ spread_between s h w
  limiter_barred e = rw e (go (same h w) refl)
    where
      go : (t : Bool) → same h w ≡ t → ◌≡◌ {A = Option ℕ} None (cond t (Some 0) None)
      go false z = refl
      go true z = absurd (true≢false (sym e ∙ same_unbarred s.option h w z))

  -- Barriers of two kinds.
  pub two_kinds : limiter_bars s.option h.limiter w.limiter ≡ false → eqb (kind_of h.barrier) (kind_of w.barrier) ≡ false → None ≡ spread_between s h w
  two_kinds e k = rw e (go (same h w) (eqb (kind_of h.barrier) (kind_of w.barrier)) refl k)
    where
      go : (t f : Bool) → same h w ≡ t → f ≡ false → ◌≡◌ {A = Option ℕ} None (cond t (Some 0) (cond f (one_kind_spread w.barrier (price_of h.barrier) s h w) None))
      go false false z q = refl
      go t true z q = absurd (true≢false q)
      go true false z q =
          absurd (true≢false (sym (eq-eqb (kind_of h.barrier) (kind_of w.barrier) (ap (λ (x : Terms). kind_of x.barrier) (same_terms_lem h w z))) ∙ k))

module _ (s : Series) (h w : Terms) (r : Option ℕ) where
  -- Two knock-ins: identical rows or none.
  pub knock_in_spread : limiter_bars s.option h.limiter w.limiter ≡ false → knock_in w.barrier ≡ true → r ≡ cond (same h w) (Some 0) None → r ≡ spread_between s h w
  knock_in_spread e n q = q ∙ rw e (ap (cond (same h w) (Some 0)) (go w.barrier (eqb (kind_of h.barrier) (kind_of w.barrier)) n))
    where
      go : (b : Barrier) (t : Bool) → knock_in b ≡ true → None ≡ cond t (one_kind_spread b (price_of h.barrier) s h w) None
      go NoBarrier t n = absurd (false≢true n)
      go (UpIn price) true n = refl
      go (UpIn price) false n = refl
      go (DownIn price) true n = refl
      go (DownIn price) false n = refl
      go (UpOut price) t n = absurd (false≢true n)
      go (DownOut price) t n = absurd (false≢true n)

  -- Other barriers of one kind: their own rule, identical rows too.
  pub one_kind_rule : limiter_bars s.option h.limiter w.limiter ≡ false → eqb (kind_of h.barrier) (kind_of w.barrier) ≡ true → knock_in w.barrier ≡ false
      → r ≡ one_kind_spread w.barrier (price_of h.barrier) s h w → r ≡ spread_between s h w
  one_kind_rule e k n q = q ∙ rw e (go (same h w) (eqb (kind_of h.barrier) (kind_of w.barrier)) refl k)
    where
      go : (t f : Bool) → same h w ≡ t → f ≡ true
          → one_kind_spread w.barrier (price_of h.barrier) s h w
          ≡ cond t (Some 0) (cond f (one_kind_spread w.barrier (price_of h.barrier) s h w) None)
      go t false z g = absurd (false≢true g)
      go false true z g = refl
      go true true z g =
          ap (λ (x : Terms). one_kind_spread w.barrier (price_of x.barrier) s x w) (same_terms_lem h w z)
          ∙ self_spread w.barrier s w n
