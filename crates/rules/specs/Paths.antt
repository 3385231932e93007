-- Document 01, Paths: paths, touch and payment. The names, from the inside out: `payoff_at` is what the option is worth at
-- the last price, without barriers; `in_payment`, `out_payment` and `payment_by_barrier` are what a normalised position pays on
-- a path, by its barrier; `payment_by_flag16` puts flag 16 before that; `payment` is the payment of any position. What rows pay
-- out and pairs bring in is in `Promises`.
use Rattle.std.specs.Prelude.{ℕ, ◌*◌, ◌-◌, ◌≤◌, min, max, Bool, true, false, cond, ◌||◌, List, [], ◌∷◌, leb}
use Rattle.rules.specs.OnePosition.{normal, rebate}
use Rattle.rules.specs.Quantities.{fine, high, low}
use Rattle.rules.specs.declared.Barrier.{Barrier}
use Rattle.rules.specs.declared.Barrier.TheVariants.{NoBarrier, UpIn, DownIn, UpOut, DownOut}
use Rattle.rules.specs.declared.Limiter.{Limiter}
use Rattle.rules.specs.declared.Limiter.TheVariants.{NoLimiter, At}
use Rattle.rules.specs.declared.OptionType.{OptionType}
use Rattle.rules.specs.declared.OptionType.TheVariants.{Call, Put}
use Rattle.rules.specs.declared.Position.{Position}
use Rattle.rules.specs.declared.Series.{Series}
use Rattle.rules.specs.declared.Terms.{Terms}

-- P holds of each price of a list.
abbrev pub Every : (ℕ → Type 0) → List ℕ → Type 0
Every P [] = Unit {0}
Every P (x ∷ l) = P x × Every P l

-- "any later price q after an earlier p with p × fb ≤ q × 1,000,000 ≤ p × fa"
abbrev pub Step : Series → ℕ → ℕ → Type 0
Step s p q = (p * s.fb ≤ q * 1_000_000) × (q * 1_000_000 ≤ p * s.fa)

-- "prices in whole fine units, each from L to H (the series' own)", and each later one bound by each earlier one. The
-- earliest price comes first.
abbrev pub Prices : Series → List ℕ → Type 0
Prices s [] = Unit {0}
Prices s (p ∷ l) = (low s ≤ p) × (p ≤ high s) × Every (Step s p) l × Prices s l

-- "A path is a non-empty list of prices". "Early exercise is a path that ends there": a path may end at any of its prices,
-- and pays by the last one.
abbrev pub IsPath : Series → List ℕ → Type 0
IsPath s [] = ⊥
IsPath s (p ∷ l) = Prices s (p ∷ l)

-- "Up barriers are touched at or above, down barriers at or below."
abbrev pub at_or_above : ℕ → ℕ → Bool
at_or_above price x = leb (fine price) x

abbrev pub at_or_below : ℕ → ℕ → Bool
at_or_below price x = leb x (fine price)

-- Whether a barrier is touched by a price of the list.
abbrev pub touched : (ℕ → Bool) → List ℕ → Bool
touched touches [] = false
touched touches (x ∷ l) = touches x || touched touches l

-- The last price of a path; 0 stands for that of the empty list, which is no path.
abbrev pub last_or : ℕ → List ℕ → ℕ
last_or d [] = d
last_or d (x ∷ l) = last_or x l

abbrev pub last : List ℕ → ℕ
last l = last_or 0 l

-- "min(PB; last)" and "max(PB; last)", "without limits if no limiter"
abbrev pub capped : Limiter → ℕ → ℕ
capped NoLimiter x = x
capped (At pb) x = min (fine pb) x

abbrev pub floored : Limiter → ℕ → ℕ
floored NoLimiter x = x
floored (At pb) x = max (fine pb) x

-- "max(0; min(PB; last) − PE) or max(0; PE − max(PB; last))", where x is the last price.
abbrev pub payoff_at : OptionType → Terms → ℕ → ℕ
payoff_at Call p x = capped p.limiter x - fine p.pe
payoff_at Put p x = fine p.pe - floored p.limiter x

-- "A position pays REB per unit if .. never knocked in; else" its payoff at the last price.
abbrev pub in_payment : OptionType → (ℕ → Bool) → Terms → List ℕ → ℕ
in_payment k touches p l = cond (touched touches l) (payoff_at k p (last l)) (rebate p)

-- "A position pays REB per unit if knocked out .. else" its payoff at the last price.
abbrev pub out_payment : OptionType → (ℕ → Bool) → Terms → List ℕ → ℕ
out_payment k touches p l = cond (touched touches l) (rebate p) (payoff_at k p (last l))

-- What a normalised position pays on a path, by its barrier.
abbrev pub payment_by_barrier : OptionType → Barrier → Terms → List ℕ → ℕ
payment_by_barrier k NoBarrier p l = payoff_at k p (last l)
payment_by_barrier k (UpIn iu) p l = in_payment k (at_or_above iu) p l
payment_by_barrier k (DownIn id) p l = in_payment k (at_or_below id) p l
payment_by_barrier k (UpOut ou) p l = out_payment k (at_or_above ou) p l
payment_by_barrier k (DownOut od) p l = out_payment k (at_or_below od) p l

-- A row with flag 16 "pays REB on every path" (document 02 [5]); others pay by their barrier.
abbrev pub payment_by_flag16 : Bool → OptionType → Terms → List ℕ → ℕ
payment_by_flag16 true k p l = rebate p
payment_by_flag16 false k p l = payment_by_barrier k p.barrier p l

-- What a position pays on a path of its series, "per unit, in fine units". A row with flag 1 is knocked in already.
unfoldable pub payment : Series → Position → List ℕ → ℕ
payment s p l = payment_by_flag16 p.flags.knockedOut s.option (normal p) l
