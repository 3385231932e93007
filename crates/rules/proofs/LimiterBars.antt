-- Document 02 [3], why limiters bar: for each of the two ways in which they bar a pair, a call and a put that the spread
-- formula in force would not cover. The series are those of the checked values (H 3600, L 2400).
-- Assumes nothing.
use Prim.Native.Nat.{ℕ, ◌+◌, ◌<◌}
use mathlib.Core.List.{[], ◌∷◌}
use mathlib.Core.Path.{◌≡◌, refl}
use native.Mathlib.Omega.{arith}
use Rattle.rules.proofs.CheckedValues.{row, series}
use Rattle.rules.specs.OnePosition.{normal}
use Rattle.rules.specs.Paths.{IsPath, payment}
use Rattle.rules.specs.Quantities.{fine}
use Rattle.rules.specs.Spreads.{strike_loss, unit_spread}
use Rattle.rules.specs.declared.Barrier.TheVariants.{NoBarrier}
use Rattle.rules.specs.declared.Limiter.{Limiter}
use Rattle.rules.specs.declared.Limiter.TheVariants.{NoLimiter, At}
use Rattle.rules.specs.declared.OptionType.{OptionType}
use Rattle.rules.specs.declared.OptionType.TheVariants.{Call, Put}
use Rattle.rules.specs.declared.Position.{Position}
use Rattle.rules.specs.declared.Side.TheVariants.{Held, Written}
use Rattle.std.specs.Prelude.{None}

-- A held and a written row without barriers and with strike 3100, with these limiters: they do not pair, and on the path of one
-- price the written row pays more than the formula and the held row give together.
abbrev Uncovered : OptionType → Limiter → Limiter → ℕ → Type 0
Uncovered option pbh pbw price =
    let h : Position = row Held 3100 pbh NoBarrier 0 in
    let w : Position = row Written 3100 pbw NoBarrier 0 in
    (unit_spread (series option) h w ≡ None)
    × IsPath (series option) (price ∷ [])
    × (strike_loss option (normal h) (normal w) + payment (series option) h (price ∷ []) < payment (series option) w (price ∷ []))

pub limiters_bar :
    -- "A held limiter against an unlimited written row"
    Uncovered Call (At 3300) NoLimiter (fine 3600)
    × Uncovered Put (At 2900) NoLimiter (fine 2400)
    -- Both have one and the held one is one tick nearer
    × Uncovered Call (At 3299) (At 3300) (fine 3600)
    × Uncovered Put (At 2901) (At 2900) (fine 2400)
unfolding payment unit_spread
limiters_bar = (
  (refl, omega arith, omega arith),
  (refl, omega arith, omega arith),
  (refl, omega arith, omega arith),
  (refl, omega arith, omega arith),
)
