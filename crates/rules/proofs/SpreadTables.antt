-- Computed values of spreads and of what pairs: the second part of the table of `RuleValues`. The series are those of the
-- checked values (H 3600, L 2400, MM 150), and a value in ticks is that many fine units.
use Prim.Native.Nat.{ℕ}
use mathlib.Core.Bool.{Bool, true, false}
use mathlib.Core.Path.{◌≡◌}
use Rattle.rules.proofs.CheckedValues.{row, series}
use Rattle.rules.specs.Lines.{spread_unit}
use Rattle.rules.specs.Pairs.{may_pair, strike_difference}
use Rattle.rules.specs.Quantities.{fine}
use Rattle.rules.specs.Spreads.{unit_spread}
use Rattle.rules.specs.declared.Barrier.{Barrier}
use Rattle.rules.specs.declared.Barrier.TheVariants.{NoBarrier, UpIn, DownIn, UpOut, DownOut}
use Rattle.rules.specs.declared.Limiter.{Limiter}
use Rattle.rules.specs.declared.Limiter.TheVariants.{NoLimiter, At}
use Rattle.rules.specs.declared.OptionType.{OptionType}
use Rattle.rules.specs.declared.OptionType.TheVariants.{Call, Put}
use Rattle.rules.specs.declared.Position.{Position}
use Rattle.rules.specs.declared.Side.{Side}
use Rattle.rules.specs.declared.Side.TheVariants.{Held, Written}
use Rattle.rules.proofs.MarginTables.{knocked_in_row, knocked_out_row}
use Rattle.std.specs.Prelude.{Option, Some, None}

-- The unit spread margin: the type, then the held row's and the written row's strike, barrier and rebate.
abbrev pub spread : OptionType → ℕ → Barrier → ℕ → ℕ → Barrier → ℕ → Option ℕ
spread option peh barh rebh pew barw rebw =
    unit_spread (series option) (row Held peh NoLimiter barh rebh) (row Written pew NoLimiter barw rebw)

-- Identical rows.
abbrev pub SameRowSpreads : Type 0
SameRowSpreads =
    -- "Same PE, limiter, barrier and REB after flag 1 is applied: 0"
    (unit_spread (series Call) (row Held 3100 (At 3300) (UpIn 3700) 40) (row Written 3100 (At 3300) (UpIn 3700) 40) ≡ Some 0)
    × (unit_spread (series Put) (row Held 2900 (At 0) (DownIn 2300) 40) (row Written 2900 (At 0) (DownIn 2300) 40) ≡ Some 0)
    × (unit_spread (series Call) (knocked_in_row Held 3100 NoLimiter (UpIn 3700) 40) (knocked_in_row Written 3100 NoLimiter (DownIn 2300) 25) ≡ Some 0)
    × (spread Call 3100 (UpIn 3700) 40 3100 (UpIn 3700) 40 ≡ Some 0)
    × (spread Put 2900 (DownIn 2300) 0 2900 (DownIn 2300) 0 ≡ Some 0)

-- The unit spread margin where the held call has strike 3250 and the written one 3100, the held put 2700 and the written one
-- 2900, and both have the same barrier and no rebate. Arguments: the type, the barrier of both, the held limiter, the written
-- limiter.
abbrev pub limited : OptionType → Barrier → Limiter → Limiter → Option ℕ
limited Call bar pbh pbw = unit_spread (series Call) (row Held 3250 pbh bar 0) (row Written 3100 pbw bar 0)
limited Put bar pbh pbw = unit_spread (series Put) (row Held 2700 pbh bar 0) (row Written 2900 pbw bar 0)

-- Limiters, document 02 [3].
abbrev pub LimitedSpreads : Type 0
LimitedSpreads =
    -- "when the held row has none"; a limiter at 0 is one
    (limited Call NoBarrier NoLimiter (At 3300) ≡ Some (fine 150))
    × (limited Put NoBarrier NoLimiter (At 2600) ≡ Some (fine 200))
    × (limited Put NoBarrier NoLimiter (At 0) ≡ Some (fine 200))
    -- "PBh ≥ PBw for calls, PBh ≤ PBw for puts": equal, and one tick beside it
    × (limited Call NoBarrier (At 3300) (At 3300) ≡ Some (fine 150))
    × (limited Call NoBarrier (At 3301) (At 3300) ≡ Some (fine 150))
    × (limited Call NoBarrier (At 3299) (At 3300) ≡ None)
    × (limited Put NoBarrier (At 2600) (At 2600) ≡ Some (fine 200))
    × (limited Put NoBarrier (At 2599) (At 2600) ≡ Some (fine 200))
    × (limited Put NoBarrier (At 2601) (At 2600) ≡ None)
    × (limited Put NoBarrier (At 0) (At 0) ≡ Some (fine 200))
    × (limited Put NoBarrier (At 0) (At 1) ≡ Some (fine 200))
    × (limited Put NoBarrier (At 1) (At 0) ≡ None)
    -- "A held limiter against an unlimited written row still bars it", at the same strike too
    × (limited Call NoBarrier (At 3300) NoLimiter ≡ None)
    × (limited Put NoBarrier (At 0) NoLimiter ≡ None)
    × (unit_spread (series Call) (row Held 3100 (At 3300) NoBarrier 0) (row Written 3100 NoLimiter NoBarrier 0) ≡ None)
    × (unit_spread (series Call) (knocked_in_row Held 3250 (At 3300) (UpIn 3700) 40) (row Written 3100 NoLimiter NoBarrier 0) ≡ None)
    -- "The spread formulas are those in force": strikes that cover, a written limiter between the strikes
    × (unit_spread (series Call) (row Held 3100 NoLimiter NoBarrier 0) (row Written 3100 (At 3300) NoBarrier 0) ≡ Some 0)
    × (unit_spread (series Call) (row Held 3000 (At 3300) NoBarrier 0) (row Written 3100 (At 3300) NoBarrier 0) ≡ Some 0)
    × (unit_spread (series Put) (row Held 3000 (At 0) NoBarrier 0) (row Written 2900 (At 0) NoBarrier 0) ≡ Some 0)
    × (limited Call NoBarrier NoLimiter (At 3200) ≡ Some (fine 150))
    × (limited Put NoBarrier NoLimiter (At 2800) ≡ Some (fine 200))
    × (unit_spread (series Call) (row Held 3300 NoLimiter (DownOut 2400) 0) (row Written 3100 (At 3200) (DownOut 2400) 0) ≡ Some (fine 200))
    -- Knock-outs; knock-ins pair with identical rows alone
    × (limited Call (DownOut 2400) (At 3400) (At 3300) ≡ Some (fine 150))
    × (limited Put (UpOut 3600) NoLimiter (At 2600) ≡ Some (fine 200))
    × (limited Call (UpOut 3600) (At 3299) (At 3300) ≡ None)
    × (limited Put (DownOut 2400) (At 2600) NoLimiter ≡ None)
    × (limited Call (UpIn 3600) NoLimiter (At 3300) ≡ None)
    × (unit_spread (series Put) (row Held 2900 (At 2500) (DownIn 2400) 0) (row Written 2900 (At 2600) (DownIn 2400) 0) ≡ None)

-- No barriers, and what does not pair.
abbrev pub PlainSpreads : Type 0
PlainSpreads =
    -- "No barriers": calls, puts
    (spread Call 3000 NoBarrier 0 3100 NoBarrier 0 ≡ Some 0)
    × (spread Put 2700 NoBarrier 0 2900 NoBarrier 0 ≡ Some (fine 200))
    × (spread Put 3000 NoBarrier 0 2900 NoBarrier 0 ≡ Some 0)
    × (unit_spread (series Call) (knocked_in_row Held 3250 NoLimiter (UpIn 3700) 40) (row Written 3100 NoLimiter NoBarrier 0) ≡ Some (fine 150))
    -- "Nothing else pairs": in barriers of another price or rebate, barriers of two kinds, one barrier alone
    × (spread Call 3100 (UpIn 3701) 0 3100 (UpIn 3700) 0 ≡ None)
    × (spread Call 3100 (DownIn 2300) 40 3100 (DownIn 2300) 60 ≡ None)
    × (spread Call 3100 (UpIn 3700) 0 3100 (UpOut 3700) 0 ≡ None)
    × (spread Call 3100 (UpOut 3700) 0 3100 (DownOut 2300) 0 ≡ None)
    × (spread Call 3100 NoBarrier 0 3100 (UpOut 3700) 0 ≡ None)
    × (spread Call 3100 (DownOut 2300) 0 3100 NoBarrier 0 ≡ None)
    × (spread_unit None ≡ 0)

-- Two knock-outs: which pair, and covering strikes.
abbrev pub CoveringOutSpreads : Type 0
CoveringOutSpreads =
    -- ODh ≤ ODw, OUh ≥ OUw
    (spread Call 3000 (DownOut 2500) 25 3100 (DownOut 2400) 60 ≡ None)
    × (spread Call 3000 (UpOut 3499) 25 3100 (UpOut 3500) 60 ≡ None)
    -- Covering strikes and a written barrier within reach: R, REBw or max(0; REBw − REBh) where the barriers are equal
    × (spread Call 3000 (DownOut 2300) 25 3100 (DownOut 2400) 60 ≡ Some (fine 60))
    × (spread Call 3000 (DownOut 2400) 80 3100 (DownOut 2400) 60 ≡ Some 0)
    × (spread Put 3000 (DownOut 2400) 25 2900 (DownOut 2400) 60 ≡ Some (fine 35))
    × (spread Put 2900 (DownOut 2399) 25 2900 (DownOut 2400) 60 ≡ Some (fine 60))
    × (spread Call 3000 (UpOut 3600) 25 3100 (UpOut 3600) 60 ≡ Some (fine 35))
    × (spread Call 3100 (UpOut 3601) 25 3100 (UpOut 3600) 60 ≡ Some (fine 60))
    × (spread Put 3000 (UpOut 3500) 25 2900 (UpOut 3500) 60 ≡ Some (fine 35))
    × (spread Put 3000 (UpOut 3600) 25 2900 (UpOut 3500) 60 ≡ Some (fine 60))
    -- Covering strikes and a written barrier out of reach: 0
    × (spread Call 3000 (DownOut 2300) 25 3100 (DownOut 2399) 60 ≡ Some 0)
    × (spread Put 3000 (UpOut 3700) 25 2900 (UpOut 3601) 60 ≡ Some 0)

-- Two knock-outs, the other strikes.
abbrev pub OtherOutSpreads : Type 0
OtherOutSpreads =
    -- Within reach: max(MM; R; D). For calls H is replaced by OUw, for puts L by ODw
    (spread Call 3300 (DownOut 2400) 25 3100 (DownOut 2400) 60 ≡ Some (fine 200))
    × (spread Call 3300 (DownOut 2300) 0 3100 (DownOut 2400) 700 ≡ Some (fine 700))
    × (spread Call 3150 (DownOut 2400) 0 3100 (DownOut 2400) 0 ≡ Some (fine 150))
    × (spread Call 3700 (DownOut 2400) 0 3100 (DownOut 2400) 0 ≡ Some (fine 500))
    × (spread Call 3300 (UpOut 3600) 0 3100 (UpOut 3500) 60 ≡ Some (fine 200))
    × (spread Call 3550 (UpOut 3600) 0 3100 (UpOut 3500) 60 ≡ Some (fine 400))
    × (spread Put 2700 (DownOut 2400) 0 2900 (DownOut 2500) 60 ≡ Some (fine 200))
    × (spread Put 2450 (DownOut 2400) 0 2900 (DownOut 2500) 60 ≡ Some (fine 400))
    × (spread Put 2700 (UpOut 3600) 0 2900 (UpOut 3500) 60 ≡ Some (fine 200))
    × (spread Put 2300 (UpOut 3600) 0 2900 (UpOut 3500) 60 ≡ Some (fine 500))
    -- Out of reach: max(MM; D), D with min(PEh; H) and max(PEh; L)
    × (spread Call 3300 (DownOut 2300) 0 3100 (DownOut 2300) 700 ≡ Some (fine 200))
    × (spread Call 3650 (UpOut 3700) 0 3100 (UpOut 3700) 700 ≡ Some (fine 500))
    × (spread Put 2350 (DownOut 2300) 0 2900 (DownOut 2300) 700 ≡ Some (fine 500))
    × (spread Put 2850 (UpOut 3700) 0 2900 (UpOut 3700) 700 ≡ Some (fine 150))

-- A row of a series with strike, European or opened before the annex or neither.
abbrev pub termed : Side → ℕ → Bool → Bool → ℕ → Position
termed side number european beforeAnnex pe =
    record {
      series = number;
      side = side;
      terms = record { pe = pe; limiter = NoLimiter; barrier = NoBarrier; reb = 0 };
      flags = record { knockedIn = false; limited = false; european = european; beforeAnnex = beforeAnnex; knockedOut = false };
      q = 10;
      blocked = 0;
      premium = 0;
    }

-- Which rows pair, and the strike difference in ticks.
abbrev pub Pairing : Type 0
Pairing =
    -- "both European or opened before the annex", each row one or the other
    (may_pair (series Call) (termed Written 0 true false 3100) (termed Held 0 false true 3250) ≡ true)
    × (may_pair (series Call) (termed Written 0 false true 3100) (termed Held 0 true false 3250) ≡ true)
    × (may_pair (series Call) (termed Written 0 false true 3100) (termed Held 0 false true 3250) ≡ true)
    × (may_pair (series Call) (termed Written 0 false false 3100) (termed Held 0 true true 3250) ≡ false)
    × (may_pair (series Call) (termed Written 0 true true 3100) (termed Held 0 false false 3250) ≡ false)
    -- "one held and one written row of a series"
    × (may_pair (series Call) (termed Written 0 true false 3100) (termed Held 1 true false 3250) ≡ false)
    × (may_pair (series Call) (termed Held 0 true false 3100) (termed Held 0 true false 3250) ≡ false)
    × (may_pair (series Call) (termed Written 0 true false 3100) (termed Written 0 true false 3250) ≡ false)
    × (may_pair (series Call) (termed Held 0 true false 3100) (termed Written 0 true false 3250) ≡ false)
    -- A limited pair that lowers the margin, 200 to 150, and one that does not
    × (may_pair (series Call) (row Written 3100 (At 3300) NoBarrier 0) (row Held 3250 (At 3300) NoBarrier 0) ≡ true)
    × (may_pair (series Call) (row Written 3100 (At 3300) NoBarrier 0) (row Held 3300 (At 3400) NoBarrier 0) ≡ false)
    -- A row with flag 16 "is never paired": not with the same option, nor with a row without the flag, on either side
    × (may_pair (series Call) (knocked_out_row Written 3100 NoLimiter (UpOut 3500) 40) (knocked_out_row Held 3100 NoLimiter (UpOut 3500) 40) ≡ false)
    × (may_pair (series Call) (row Written 3100 NoLimiter (UpOut 3500) 40) (knocked_out_row Held 3100 NoLimiter (UpOut 3500) 40) ≡ false)
    × (may_pair (series Call) (knocked_out_row Written 3100 NoLimiter (UpOut 3500) 40) (row Held 3100 NoLimiter (UpOut 3500) 40) ≡ false)
    × (may_pair (series Call) (row Written 3100 NoLimiter (UpOut 3500) 40) (row Held 3100 NoLimiter (UpOut 3500) 40) ≡ true)
    -- "without sign"
    × (strike_difference (termed Written 0 true false 3100) (termed Held 0 true false 3250) ≡ 150)
    × (strike_difference (termed Written 0 true false 3100) (termed Held 0 true false 3000) ≡ 100)
