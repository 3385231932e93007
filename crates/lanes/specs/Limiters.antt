-- How near limiters are. A limiter is the nearer the sooner it stops the payoff: at a lower price for a call, at a higher one
-- for a put. A held row whose limiter bars its pair with every written row of its series (document 02 [3]) stays out of the
-- lanes.
use Rattle.std.specs.Prelude.{ℕ, zero, suc, ◌+◌, ◌-◌, ◌<◌, max, Bool, cond, List, ◌≡◌, eqb, leb}
use Rattle.numbers.specs.Lists.{nth}
use Rattle.rules.specs.File.{Account, series_of_row}
use Rattle.rules.specs.Limits.{most_series}
use Rattle.rules.specs.declared.Limiter.{Limiter}
use Rattle.rules.specs.declared.Limiter.TheVariants.{NoLimiter, At}
use Rattle.rules.specs.declared.OptionType.{OptionType}
use Rattle.rules.specs.declared.OptionType.TheVariants.{Call, Put}
use Rattle.rules.specs.declared.Side.{Side}
use Rattle.rules.specs.declared.Side.TheVariants.{Held, Written}

-- How near a limiter at this price is: a number that is greater where it is nearer, and at least 1, since PB is at most
-- 10,000,000.
abbrev pub price_nearness : OptionType → ℕ → ℕ
price_nearness Call pb = 10_000_001 - pb
price_nearness Put pb = pb + 1

-- How near a row's limiter is; 0 without one.
abbrev pub nearness : OptionType → Limiter → ℕ
nearness option NoLimiter = 0
nearness option (At pb) = price_nearness option pb

-- How near that of row r is.
abbrev pub nearness_of : Account → ℕ → ℕ
nearness_of a r = nearness (series_of_row a r).option (a.position_at r).terms.limiter

-- The number x for a written row, 0 for a held one.
abbrev pub if_written : Side → ℕ → ℕ
if_written Held x = 0
if_written Written x = x

-- How near the nearest limiter among the written rows of series s is, of the first n rows; 0 where none has one.
unfoldable pub nearest_limiter : Account → ℕ → ℕ → ℕ
nearest_limiter a s zero = 0
nearest_limiter a s (suc n) =
    max (nearest_limiter a s n) (cond (eqb (a.position_at n).series s) (if_written (a.position_at n).side (nearness_of a n)) 0)

-- Some written row of the series of row r has a limiter at least as near as row r's, or row r has none.
abbrev pub limiter_fits : Account → ℕ → Bool
limiter_fits a r = leb (nearness_of a r) (nearest_limiter a (a.position_at r).series a.positions)

-- The list has this number of every series.
abbrev pub Nearest : Account → ℕ → List ℕ → Type 0
Nearest a n near = (s : ℕ) → s < most_series → nth near s ≡ nearest_limiter a s n
