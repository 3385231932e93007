-- Computed values of the rules of one position and of Paths: the first part of the table of `RuleValues`. The series are
-- those of the checked values (H 3600, L 2400, MM 150), and a value in ticks is that many fine units.
use Prim.Native.Nat.{ℕ}
use mathlib.Core.Bool.{true, false}
use mathlib.Core.List.{List, [], ◌∷◌}
use mathlib.Core.Path.{◌≡◌}
use Rattle.rules.proofs.CheckedValues.{row, series, unit_of}
use Rattle.rules.specs.OnePosition.{unit_margin}
use Rattle.rules.specs.Paths.{IsPath, last, payment}
use Rattle.rules.specs.Quantities.{fine}
use Rattle.rules.specs.declared.Barrier.{Barrier}
use Rattle.rules.specs.declared.Barrier.TheVariants.{NoBarrier, UpIn, DownIn, UpOut, DownOut}
use Rattle.rules.specs.declared.Limiter.{Limiter}
use Rattle.rules.specs.declared.Limiter.TheVariants.{NoLimiter, At}
use Rattle.rules.specs.declared.OptionType.{OptionType}
use Rattle.rules.specs.declared.OptionType.TheVariants.{Call, Put}
use Rattle.rules.specs.declared.Position.{Position}
use Rattle.rules.specs.declared.Side.{Side}
use Rattle.rules.specs.declared.Side.TheVariants.{Held, Written}

-- A row with flag 1: a barrier that has been touched, and a rebate.
abbrev pub knocked_in_row : Side → ℕ → Limiter → Barrier → ℕ → Position
knocked_in_row side pe limiter barrier reb =
    record {
      series = 0;
      side = side;
      terms = record { pe = pe; limiter = limiter; barrier = barrier; reb = reb };
      flags = record { knockedIn = true; limited = false; european = true; beforeAnnex = false; knockedOut = false };
      q = 10;
      blocked = 0;
      premium = 0;
    }

-- A row with flag 16: a knock-out that was touched, and its rebate.
abbrev pub knocked_out_row : Side → ℕ → Limiter → Barrier → ℕ → Position
knocked_out_row side pe limiter barrier reb =
    record {
      series = 0;
      side = side;
      terms = record { pe = pe; limiter = limiter; barrier = barrier; reb = reb };
      flags = record { knockedIn = false; limited = false; european = true; beforeAnnex = false; knockedOut = true };
      q = 10;
      blocked = 0;
      premium = 0;
    }

-- The unit margins in ticks, of written rows, where document 01 stars no value: MM in each maximum, the rebate in or out
-- of it, limiters, and the puts.
abbrev pub UnitMargins : Type 0
UnitMargins =
    -- No barrier. Call: max(MM; REB; C); put: max(MM; REB; P), P = PE − max(PB; L)
    (unit_of Call 3500 NoLimiter NoBarrier 0 ≡ fine 150)
    × (unit_of Call 3700 NoLimiter NoBarrier 0 ≡ fine 150)
    × (unit_of Put 2900 NoLimiter NoBarrier 0 ≡ fine 500)
    × (unit_of Put 2900 (At 2600) NoBarrier 0 ≡ fine 300)
    × (unit_of Put 2900 (At 0) NoBarrier 0 ≡ fine 500)
    × (unit_of Put 2500 NoLimiter NoBarrier 0 ≡ fine 150)
    -- "Flag 1 makes the position one without barrier and with REB 0."
    × (unit_margin (series Call) (knocked_in_row Written 3100 NoLimiter (UpIn 3700) 600) ≡ fine 500)
    × (unit_margin (series Put) (knocked_in_row Written 2900 NoLimiter (DownIn 2300) 600) ≡ fine 500)
    × (unit_margin (series Call) (knocked_in_row Written 3100 (At 3300) (UpIn 3700) 600) ≡ fine 200)

abbrev pub InBarrierMargins : Type 0
InBarrierMargins =
    -- Up-and-in, H < IU and H = IU. A put's L is then IU × fb: 2880
    (unit_of Call 3100 NoLimiter (UpIn 3601) 200 ≡ fine 200)
    × (unit_of Call 3100 NoLimiter (UpIn 3600) 600 ≡ fine 600)
    × (unit_of Call 3100 (At 3300) (UpIn 3600) 0 ≡ fine 200)
    × (unit_of Put 3200 NoLimiter (UpIn 3601) 0 ≡ fine 150)
    × (unit_of Put 3200 NoLimiter (UpIn 3601) 200 ≡ fine 200)
    × (unit_of Put 3200 NoLimiter (UpIn 3600) 400 ≡ fine 400)
    × (unit_of Put 3200 (At 3000) (UpIn 3600) 0 ≡ fine 200)
    -- Down-and-in, L > ID and L = ID. A call's H is then ID × fa: 2880
    × (unit_of Call 2500 NoLimiter (DownIn 2399) 200 ≡ fine 200)
    × (unit_of Call 2500 NoLimiter (DownIn 2400) 500 ≡ fine 500)
    × (unit_of Call 2500 (At 2700) (DownIn 2400) 0 ≡ fine 200)
    × (unit_of Put 2900 NoLimiter (DownIn 2399) 0 ≡ fine 150)
    × (unit_of Put 2900 NoLimiter (DownIn 2399) 200 ≡ fine 200)
    × (unit_of Put 2900 NoLimiter (DownIn 2400) 0 ≡ fine 500)
    × (unit_of Put 2900 NoLimiter (DownIn 2400) 600 ≡ fine 600)

abbrev pub OutBarrierMargins : Type 0
OutBarrierMargins =
    -- Down-and-out, L > OD and L ≤ OD: a put's payoff is then limited by OD
    (unit_of Call 3500 NoLimiter (DownOut 2399) 0 ≡ fine 150)
    × (unit_of Call 3100 (At 3300) (DownOut 2400) 0 ≡ fine 200)
    × (unit_of Put 2900 NoLimiter (DownOut 2399) 600 ≡ fine 500)
    × (unit_of Put 2500 NoLimiter (DownOut 2399) 0 ≡ fine 150)
    × (unit_of Put 2900 NoLimiter (DownOut 2400) 600 ≡ fine 600)
    × (unit_of Put 2900 (At 2600) (DownOut 2500) 40 ≡ fine 300)
    -- Up-and-out, H < OU and H ≥ OU: a call's payoff is then limited by OU
    × (unit_of Call 3100 NoLimiter (UpOut 3601) 600 ≡ fine 500)
    × (unit_of Call 3500 NoLimiter (UpOut 3601) 0 ≡ fine 150)
    × (unit_of Call 3100 NoLimiter (UpOut 3600) 600 ≡ fine 600)
    × (unit_of Call 3100 (At 3300) (UpOut 3500) 40 ≡ fine 200)
    × (unit_of Put 2900 NoLimiter (UpOut 3601) 600 ≡ fine 500)
    × (unit_of Put 2500 NoLimiter (UpOut 3601) 0 ≡ fine 150)
    × (unit_of Put 2900 NoLimiter (UpOut 3600) 600 ≡ fine 600)

-- Paths of three prices, and what a row pays on one that rises to H and ends at 3300.
abbrev pub rising : List ℕ
rising = fine 3000 ∷ fine 3600 ∷ fine 3300 ∷ []

abbrev pub pays : OptionType → ℕ → Limiter → Barrier → ℕ → ℕ
pays option pe limiter barrier reb = payment (series option) (row Written pe limiter barrier reb) rising

abbrev pub ThreePrices : Type 0
ThreePrices = IsPath (series Call) rising × IsPath (series Call) (fine 3000 ∷ fine 2400 ∷ fine 2880 ∷ [])

abbrev pub Payments : Type 0
Payments =
    (last [] ≡ 0)
    × (pays Call 3100 NoLimiter NoBarrier 0 ≡ fine 200)
    × (pays Call 3100 (At 3250) NoBarrier 0 ≡ fine 150)
    × (pays Call 3400 NoLimiter NoBarrier 0 ≡ 0)
    × (pays Put 3500 NoLimiter NoBarrier 0 ≡ fine 200)
    × (pays Put 3500 (At 3350) NoBarrier 0 ≡ fine 150)
    -- Touched at H or at the first price, and not touched one tick beyond
    × (pays Call 3100 NoLimiter (UpIn 3600) 40 ≡ fine 200)
    × (pays Call 3100 NoLimiter (UpIn 3601) 40 ≡ fine 40)
    × (pays Call 3100 NoLimiter (DownIn 3000) 40 ≡ fine 200)
    × (pays Call 3100 NoLimiter (DownIn 2999) 40 ≡ fine 40)
    × (pays Call 3100 NoLimiter (UpOut 3600) 40 ≡ fine 40)
    × (pays Call 3100 NoLimiter (UpOut 3601) 40 ≡ fine 200)
    × (pays Put 3500 NoLimiter (DownOut 3000) 40 ≡ fine 40)
    × (pays Put 3500 NoLimiter (DownOut 2999) 40 ≡ fine 200)
    -- Flag 1: knocked in already
    × (payment (series Call) (knocked_in_row Written 3100 NoLimiter (UpIn 3700) 40) rising ≡ fine 200)

-- "A row with flag 16 has unit margin REB if written", without MM, whatever else it has; it "pays REB on every path".
abbrev pub KnockedOut : Type 0
KnockedOut =
    (unit_margin (series Call) (knocked_out_row Written 3100 NoLimiter (UpOut 3500) 0) ≡ 0)
    × (unit_margin (series Call) (knocked_out_row Written 3100 NoLimiter (UpOut 2900) 40) ≡ fine 40)
    × (unit_margin (series Call) (knocked_out_row Written 3100 (At 3300) (DownOut 3100) 600) ≡ fine 600)
    × (unit_margin (series Put) (knocked_out_row Written 3200 NoLimiter (DownOut 2500) 149) ≡ fine 149)
    × (payment (series Call) (knocked_out_row Written 3100 NoLimiter (UpOut 3700) 40) rising ≡ fine 40)
    × (payment (series Put) (knocked_out_row Held 3500 NoLimiter (DownOut 2000) 0) rising ≡ 0)
    × (payment (series Put) (knocked_out_row Held 3500 NoLimiter (DownOut 2000) 7) (fine 3600 ∷ []) ≡ fine 7)
