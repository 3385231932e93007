-- The payoff that a rule charges and the payoff that a path's last price pays, for calls and puts alike.
-- Assumes nothing.
use Prim.Native.Nat.{ℕ, ◌+◌, ◌≤◌, min, max}
use mathlib.Core.Path.{◌≡◌, refl}
use native.Mathlib.Nat.{le_refl}
use native.Mathlib.Omega.{arith}
use Rattle.rules.proofs.Mirror.{charge, worst}
use Rattle.rules.proofs.Touch.{In}
use Rattle.rules.specs.OnePosition.{limit_or}
use Rattle.rules.specs.Paths.{capped, floored, payoff_at}
use Rattle.rules.specs.Quantities.{high, low}
use Rattle.rules.specs.declared.Limiter.{Limiter}
use Rattle.rules.specs.declared.Limiter.TheVariants.{NoLimiter, At}
use Rattle.rules.specs.declared.OptionType.{OptionType}
use Rattle.rules.specs.declared.OptionType.TheVariants.{Call, Put}
use Rattle.rules.specs.declared.Series.{Series}
use Rattle.rules.specs.declared.Terms.{Terms}

-- The worst price is one of the prices.
pub worst_in : (k : OptionType) (lo hi : ℕ) → lo ≤ hi → In lo hi (worst k lo hi)
worst_in Call lo hi h = (h, le_refl hi)
worst_in Put lo hi h = (le_refl lo, h)

-- What is paid at z is charged at every x that is no better for the writer, where the limit that stands for a missing
-- limiter is no better either.
capped_paid : (lim : Limiter) (x z h : ℕ) → z ≤ h → z ≤ x → capped lim z ≤ min (limit_or lim h) x
capped_paid NoLimiter x z h a b = omega arith
capped_paid (At pb) x z h a b = omega arith

floored_paid : (lim : Limiter) (x z l : ℕ) → l ≤ z → x ≤ z → max (limit_or lim l) x ≤ floored lim z
floored_paid NoLimiter x z l a b = omega arith
floored_paid (At pb) x z l a b = omega arith

-- A payoff at one of the series' prices is at most the charge over lo to hi. A call asks that hi bounds the price, a
-- put that lo does.
pub paid_charged :
    (k : OptionType) (s : Series) (p : Terms) (z lo hi : ℕ) → In (low s) (high s) z
    → (k ≡ Call → z ≤ hi) → (k ≡ Put → lo ≤ z) → payoff_at k p z ≤ charge k s p (worst k lo hi)
paid_charged Call s p z lo hi i c d = omega (arith, capped_paid p.limiter hi z (high s) i.1 (c refl))
paid_charged Put s p z lo hi i c d = omega (arith, floored_paid p.limiter lo z (low s) i.0 (d refl))

-- What is charged at x is paid at every z that is at most n better for the writer, but for n.
capped_charged : (lim : Limiter) (n x z h : ℕ) → x ≤ z + n → min (limit_or lim h) x ≤ capped lim z + n
capped_charged NoLimiter n x z h a = omega arith
capped_charged (At pb) n x z h a = omega arith

floored_charged : (lim : Limiter) (n x z l : ℕ) → z ≤ x + n → floored lim z ≤ max (limit_or lim l) x + n
floored_charged NoLimiter n x z l a = omega arith
floored_charged (At pb) n x z l a = omega arith

-- The charge over lo to hi is at most the payoff at the worst of other prices, but for n if those lack at most n.
pub charged_paid :
    (k : OptionType) (s : Series) (p : Terms) (n lo hi lo' hi' : ℕ) → lo' ≤ lo + n → hi ≤ hi' + n
    → charge k s p (worst k lo hi) ≤ payoff_at k p (worst k lo' hi') + n
charged_paid Call s p n lo hi lo' hi' a b = omega (arith, capped_charged p.limiter n hi hi' (high s) b)
charged_paid Put s p n lo hi lo' hi' a b = omega (arith, floored_charged p.limiter n lo lo' (low s) a)
