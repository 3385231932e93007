-- A charge below the unit margin is the spread's unit, and the rows may pair; else they do not.
-- Assumes nothing.
use Prim.Native.Nat.{ℕ, ◌≤◌, ◌<◌}
use mathlib.Core.Bool.{true, false}
use mathlib.Core.Path.{◌≡◌, refl}
use native.Mathlib.Omega.{arith}
use borrow.Author.Tests.{le-ltb, lt-ltb}
use Rattle.rules.specs.Lines.{spread_unit}
use Rattle.rules.specs.Pairs.{lowers}
use Rattle.spreads.specs.Charges.{charge_of}
use Rattle.std.specs.Prelude.{Option, Some, None}

pub charge_lowers : (unit : ℕ) (s : Option ℕ) → charge_of unit s < unit → (lowers unit s ≡ true) × (charge_of unit s ≡ spread_unit s)
charge_lowers unit None l = absurd (omega arith)
charge_lowers unit (Some c) l = (lt-ltb c unit l, refl)

pub charge_not : (unit : ℕ) (s : Option ℕ) → unit ≤ charge_of unit s → lowers unit s ≡ false
charge_not unit None l = refl
charge_not unit (Some c) l = le-ltb c unit l
