-- Rows with the same strike, limiter, barrier and rebate have equal terms and pay the same, and a barrier is known by its
-- kind and price.
-- Assumes nothing.
use Prim.Native.Nat.{ℕ}
use mathlib.Core.Bool.{true, and-eq-true_iff, false≢true, ◌&&◌}
use mathlib.Core.List.{List}
use mathlib.Core.Path.{◌≡◌, refl, ap, sym, ◌∙◌}
use borrow.Author.Tests.{eqb-true}
use lib.Dec.{eqb}
use Rattle.rules.specs.File.{barrier_of}
use Rattle.rules.specs.Paths.{payment_by_barrier}
use Rattle.rules.specs.Spreads.{kind_of, price_of, same, same_barrier, same_limiter}
use Rattle.rules.specs.declared.Barrier.{Barrier}
use Rattle.rules.specs.declared.Barrier.TheVariants.{NoBarrier, UpIn, DownIn, UpOut, DownOut}
use Rattle.rules.specs.declared.Limiter.{Limiter}
use Rattle.rules.specs.declared.Limiter.TheVariants.{NoLimiter, At}
use Rattle.rules.specs.declared.OptionType.{OptionType}
use Rattle.rules.specs.declared.Terms.{Terms}

-- A barrier is what its kind and price make.
own : (bar : Barrier) → barrier_of (kind_of bar) (price_of bar) ≡ bar
own NoBarrier = refl
own (UpIn b) = refl
own (DownIn b) = refl
own (UpOut b) = refl
own (DownOut b) = refl

-- The kind may be that of another barrier of the same kind.
pub of_kind : (h w : Barrier) → eqb (kind_of h) (kind_of w) ≡ true → barrier_of (kind_of w) (price_of h) ≡ h
of_kind h w e = ap (λ n. barrier_of n (price_of h)) (sym (eqb-true (kind_of h) (kind_of w) e)) ∙ own h

same_barrier_lem : (h w : Barrier) → same_barrier h w ≡ true → h ≡ w
same_barrier_lem h w e =
    let t = (and-eq-true_iff (eqb (kind_of h) (kind_of w)) (eqb (price_of h) (price_of w))).0 e in
    sym (of_kind h w t.0) ∙ ap (barrier_of (kind_of w)) (eqb-true (price_of h) (price_of w) t.1) ∙ own w

same_limiter_lem : (h w : Limiter) → same_limiter h w ≡ true → h ≡ w
same_limiter_lem NoLimiter NoLimiter e = refl
same_limiter_lem NoLimiter (At w) e = absurd (false≢true e)
same_limiter_lem (At h) NoLimiter e = absurd (false≢true e)
same_limiter_lem (At h) (At w) e = ap At (eqb-true h w e)

-- Terms that the first rule of Pairs calls the same are equal.
pub same_terms_lem : (h w : Terms) → same h w ≡ true → h ≡ w
same_terms_lem h w e =
    let pe = eqb h.pe w.pe in
    let lim = same_limiter h.limiter w.limiter in
    let bar = same_barrier h.barrier w.barrier in
    let x = (and-eq-true_iff (pe && lim && bar) (eqb h.reb w.reb)).0 e in
    let y = (and-eq-true_iff (pe && lim) bar).0 x.0 in
    let z = (and-eq-true_iff pe lim).0 y.0 in
    ap (λ n. record { pe = n; limiter = h.limiter; barrier = h.barrier; reb = h.reb }) (eqb-true h.pe w.pe z.0)
    ∙ ap (λ l. record { pe = w.pe; limiter = l; barrier = h.barrier; reb = h.reb }) (same_limiter_lem h.limiter w.limiter z.1)
    ∙ ap (λ b. record { pe = w.pe; limiter = w.limiter; barrier = b; reb = h.reb }) (same_barrier_lem h.barrier w.barrier y.1)
    ∙ ap (λ n. record { pe = w.pe; limiter = w.limiter; barrier = w.barrier; reb = n }) (eqb-true h.reb w.reb x.1)

pub same_paid :
    (k : OptionType) (h w : Terms) (l : List ℕ) → same h w ≡ true
    → payment_by_barrier k h.barrier h l ≡ payment_by_barrier k w.barrier w l
same_paid k h w l e = ap (λ t. payment_by_barrier k t.barrier t l) (same_terms_lem h w e)
