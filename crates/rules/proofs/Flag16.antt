-- Flag 16 (document 02 [5]): what it makes of the unit margin and of the payment, and that without it both are by the
-- barrier's rules.
-- Assumes nothing.
use mathlib.Core.Bool.{Bool, true, false}
use mathlib.Core.List.{List}
use mathlib.Core.Path.{◌≡◌, ap}
use Prim.Native.Nat.{ℕ}
use Rattle.rules.specs.OnePosition.{normal, rebate, unit_by, unit_by_flag16, unit_margin}
use Rattle.rules.specs.Paths.{payment, payment_by_barrier, payment_by_flag16}
use Rattle.rules.specs.declared.Position.{Position}
use Rattle.rules.specs.declared.Series.{Series}

module _ (s : Series) (p : Position) where
  unit_by_lem : (t : Bool) → p.flags.knockedOut ≡ t → unit_margin s p ≡ unit_by_flag16 t s (normal p)
  unfolding unit_margin
  unit_by_lem t e = ap (λ (x : Bool). unit_by_flag16 x s (normal p)) e

  pub unit_with : p.flags.knockedOut ≡ true → unit_margin s p ≡ rebate (normal p)
  unit_with e = unit_by_lem true e

  pub unit_without : p.flags.knockedOut ≡ false → unit_margin s p ≡ unit_by s.option (normal p).barrier s (normal p)
  unit_without e = unit_by_lem false e

  payment_by : (t : Bool) → p.flags.knockedOut ≡ t → (l : List ℕ) → payment s p l ≡ payment_by_flag16 t s.option (normal p) l
  unfolding payment
  payment_by t e l = ap (λ (x : Bool). payment_by_flag16 x s.option (normal p) l) e

  pub payment_with : p.flags.knockedOut ≡ true → (l : List ℕ) → payment s p l ≡ rebate (normal p)
  payment_with e l = payment_by true e l

  pub payment_without : p.flags.knockedOut ≡ false → (l : List ℕ) → payment s p l ≡ payment_by_barrier s.option (normal p).barrier (normal p) l
  payment_without e l = payment_by false e l
