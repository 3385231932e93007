-- The unit margin of a position is worked out from its terms after flag 1 is applied and from flag 16: without the flag by the
-- barrier, with it the rebate.
-- Assumes nothing.
use Prim.Native.Nat.{ℕ}
use mathlib.Core.Bool.{Bool, true, false}
use mathlib.Core.Path.{◌≡◌, ap, sym, ◌∙◌}
use Rattle.rules.specs.OnePosition.{normal, rebate, unit_by, unit_by_flag16, unit_margin}
use Rattle.rules.specs.declared.Position.{Position}
use Rattle.rules.specs.declared.Series.{Series}
use Rattle.rules.specs.declared.Terms.{Terms}

pub terms_unit : (s : Series) (p : Position) (t : Terms) (u : ℕ) → t ≡ normal p → u ≡ unit_by_flag16 p.flags.knockedOut s t → u ≡ unit_margin s p
unfolding unit_margin
terms_unit s p t u e is = is ∙ ap (unit_by_flag16 p.flags.knockedOut s) e

module _ (s : Series) (t : Terms) (out : Bool) where
  pub flag_16_unit : out ≡ true → rebate t ≡ unit_by_flag16 out s t
  flag_16_unit e = sym (ap (λ (x : Bool). unit_by_flag16 x s t) e)

  pub no_flag_16_unit : out ≡ false → unit_by s.option t.barrier s t ≡ unit_by_flag16 out s t
  no_flag_16_unit e = sym (ap (λ (x : Bool). unit_by_flag16 x s t) e)
