-- The unit margin in one form for calls and puts, over the price that costs the writer most, and the law that it is the
-- unit margin of document 01.
-- Assumes nothing.
use Prim.Native.Nat.{ℕ, ◌*◌, max}
use mathlib.Core.Bool.{cond}
use mathlib.Core.Path.{◌≡◌, refl}
use lib.Dec.{ltb}
use Rattle.rules.specs.OnePosition.{call_payoff, put_payoff, rebate, unit_by}
use Rattle.rules.specs.Quantities.{fine, high, low, minimum}
use Rattle.rules.specs.declared.Barrier.{Barrier}
use Rattle.rules.specs.declared.Barrier.TheVariants.{NoBarrier, UpIn, DownIn, UpOut, DownOut}
use Rattle.rules.specs.declared.OptionType.{OptionType}
use Rattle.rules.specs.declared.OptionType.TheVariants.{Call, Put}
use Rattle.rules.specs.declared.Series.{Series}
use Rattle.rules.specs.declared.Terms.{Terms}

-- Of the prices from lo to hi the one that costs the writer most.
abbrev pub worst : OptionType → ℕ → ℕ → ℕ
worst Call lo hi = hi
worst Put lo hi = lo

-- C or P where x is the H or L in force.
abbrev pub charge : OptionType → Series → Terms → ℕ → ℕ
charge Call s p x = call_payoff s p x
charge Put s p x = put_payoff s p x

-- max(MM; C) or max(MM; P)
abbrev pub bare : OptionType → Series → Terms → ℕ → ℕ
bare k s p x = max (minimum s) (charge k s p x)

-- max(MM; REB; C) or max(MM; REB; P)
abbrev pub most : OptionType → Series → Terms → ℕ → ℕ
most k s p x = max (minimum s) (max (rebate p) (charge k s p x))

-- The unit margin by the barrier.
abbrev pub rule : OptionType → Barrier → Series → Terms → ℕ
rule k NoBarrier s p = most k s p (worst k (low s) (high s))
rule k (UpIn b) s p =
    cond (ltb (high s) (fine b)) (max (minimum s) (rebate p)) (most k s p (worst k (b * s.fb) (high s)))
rule k (DownIn b) s p =
    cond (ltb (fine b) (low s)) (max (minimum s) (rebate p)) (most k s p (worst k (low s) (b * s.fa)))
rule k (UpOut b) s p =
    cond (ltb (high s) (fine b)) (bare k s p (worst k (low s) (high s)))
    (most k s p (worst k (low s) (fine b)))
rule k (DownOut b) s p =
    cond (ltb (fine b) (low s)) (bare k s p (worst k (low s) (high s)))
    (most k s p (worst k (fine b) (high s)))

-- It is document 01's, of every series and position.
pub mirror : (k : OptionType) (bar : Barrier) (s : Series) (p : Terms) → unit_by k bar s p ≡ rule k bar s p
mirror Call NoBarrier s p = refl
mirror Call (UpIn b) s p = refl
mirror Call (DownIn b) s p = refl
mirror Call (UpOut b) s p = refl
mirror Call (DownOut b) s p = refl
mirror Put NoBarrier s p = refl
mirror Put (UpIn b) s p = refl
mirror Put (DownIn b) s p = refl
mirror Put (UpOut b) s p = refl
mirror Put (DownOut b) s p = refl
