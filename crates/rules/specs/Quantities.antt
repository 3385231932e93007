-- Document 01, Quantities. Every number here is a natural number, and a difference `x - y` is 0 where y is greater. The
-- payoffs and rebate differences of document 01 that can be negative, C, P, D, R and those of Paths, stand in a maximum with
-- MM or with 0 there, so that 0 in their place changes nothing. Every other difference takes at most what is there: a
-- place counted back from a file's end (`File`; a file too short for it is refused, with 1 or 4, before it is looked at),
-- blocked contracts (`Pairs.available`, `Promises.unpaired`), contracts that a pair uses (`Pairs.taken`, `Promises.unpaired`),
-- a bit from 1 (`Day.with_flag1`, `with_flag16`), and the two of `Pairs.strike_difference`, of which one is 0.
use Rattle.std.specs.Prelude.{ℕ, ◌*◌}
use Rattle.rules.specs.declared.Series.{Series}

-- "A fine unit is a millionth of a tick." "Ticks are multiplied by 1,000,000 before they meet fine units."
abbrev pub fine : ℕ → ℕ
fine ticks = ticks * 1_000_000

-- "High price H = PV × fa": ticks times millionths are fine units.
abbrev pub high : Series → ℕ
high s = s.pv * s.fa

-- "low price L = PV × fb"
abbrev pub low : Series → ℕ
low s = s.pv * s.fb

-- "minimum margin MM = f3 × PV"
abbrev pub minimum : Series → ℕ
minimum s = s.f3 * s.pv
