-- Document 01, Checked values: those marked * in one table, one theorem of the definitions.
-- Assumes nothing.
use Prim.Native.Nat.{ℕ}
use mathlib.Core.Bool.{true, false}
use mathlib.Core.Path.{◌≡◌, refl}
use Rattle.rules.specs.OnePosition.{amount_of, unit_margin}
use Rattle.rules.specs.Pairs.{may_pair}
use Rattle.rules.specs.Quantities.{fine}
use Rattle.rules.specs.Spreads.{unit_spread}
use Rattle.rules.specs.declared.Barrier.{Barrier}
use Rattle.rules.specs.declared.Barrier.TheVariants.{NoBarrier, UpIn, DownIn, UpOut, DownOut}
use Rattle.rules.specs.declared.Limiter.{Limiter}
use Rattle.rules.specs.declared.Limiter.TheVariants.{NoLimiter, At}
use Rattle.rules.specs.declared.OptionType.{OptionType}
use Rattle.rules.specs.declared.OptionType.TheVariants.{Call, Put}
use Rattle.rules.specs.declared.Position.{Position}
use Rattle.rules.specs.declared.Series.{Series}
use Rattle.rules.specs.declared.Side.{Side}
use Rattle.rules.specs.declared.Side.TheVariants.{Held, Written}
use Rattle.std.specs.Prelude.{Some}

-- "Call series PV 3000, fa 1,200,000, fb 800,000, f3 50,000, M 5 .. Put series alike."
abbrev pub series : OptionType → Series
series option =
    record { pv = 3000; fa = 1_200_000; fb = 800_000; f3 = 50_000; m = 5; option = option }

-- "PV 3001, fa 1,234,567", the rest as above
abbrev pub odd_series : Series
odd_series = record { pv = 3001; fa = 1_234_567; fb = 800_000; f3 = 50_000; m = 5; option = Call }

-- A European row with strike, limiter, barrier and rebate.
abbrev pub row : Side → ℕ → Limiter → Barrier → ℕ → Position
row side pe limiter barrier reb =
    record {
      series = 0;
      side = side;
      terms = record { pe = pe; limiter = limiter; barrier = barrier; reb = reb };
      flags = record { knockedIn = false; limited = false; european = true; beforeAnnex = false; knockedOut = false };
      q = 10;
      blocked = 0;
      premium = 0;
    }

-- The unit margin of a written row.
abbrev pub unit_of : OptionType → ℕ → Limiter → Barrier → ℕ → ℕ
unit_of option pe limiter barrier reb = unit_margin (series option) (row Written pe limiter barrier reb)

-- A value in ticks is that many fine units.
pub checked_values :
    -- Call PE 3100: 500; PB 3300: 200
    (unit_of Call 3100 NoLimiter NoBarrier 0 ≡ fine 500)
    × (unit_of Call 3100 (At 3300) NoBarrier 0 ≡ fine 200)
    -- IU 3700, REB 40: 150; IU 3600: 500
    × (unit_of Call 3100 NoLimiter (UpIn 3700) 40 ≡ fine 150)
    × (unit_of Call 3100 NoLimiter (UpIn 3600) 40 ≡ fine 500)
    -- ID 2300: 150; ID 2400, PE 2500: 380
    × (unit_of Call 3100 NoLimiter (DownIn 2300) 0 ≡ fine 150)
    × (unit_of Call 2500 NoLimiter (DownIn 2400) 0 ≡ fine 380)
    -- OD 2300, REB 600: 500; OD 2400: 600
    × (unit_of Call 3100 NoLimiter (DownOut 2300) 600 ≡ fine 500)
    × (unit_of Call 3100 NoLimiter (DownOut 2400) 600 ≡ fine 600)
    -- OU 3500, REB 40: 400
    × (unit_of Call 3100 NoLimiter (UpOut 3500) 40 ≡ fine 400)
    -- Put PE 3200, IU 3600: 320; PE 2900, OD 2500: 400
    × (unit_of Put 3200 NoLimiter (UpIn 3600) 0 ≡ fine 320)
    × (unit_of Put 2900 NoLimiter (DownOut 2500) 0 ≡ fine 400)
    -- Written call PE 3100: held PE 3250 gives 150, 3600 no pair
    × (unit_spread (series Call) (row Held 3250 NoLimiter NoBarrier 0) (row Written 3100 NoLimiter NoBarrier 0) ≡ Some (fine 150))
    × (may_pair (series Call) (row Written 3100 NoLimiter NoBarrier 0) (row Held 3250 NoLimiter NoBarrier 0) ≡ true)
    × (may_pair (series Call) (row Written 3100 NoLimiter NoBarrier 0) (row Held 3600 NoLimiter NoBarrier 0) ≡ false)
    -- OD 2400 both, REBw 60, REBh 25, PEh 3000: 35
    × (unit_spread (series Call) (row Held 3000 NoLimiter (DownOut 2400) 25) (row Written 3100 NoLimiter (DownOut 2400) 60) ≡ Some (fine 35))
    -- PV 3001, fa 1,234,567, PE 3100, Q 10: 30247 centavos, and "30247 in document 01 becomes 30300" (document 02 [6])
    × (amount_of (unit_margin odd_series (row Written 3100 NoLimiter NoBarrier 0)) odd_series.m 10 ≡ 30_300)
unfolding unit_margin unit_spread
checked_values =
    (refl, refl, refl, refl, refl, refl, refl, refl, refl, refl, refl, refl, refl, refl, refl, refl)
