-- The flags of a row of the day's series, by the two tests that the code makes one after the other.
-- Assumes nothing.
use Prim.Native.Nat.{ℕ}
use mathlib.Core.Bool.{Bool, true, false, cond}
use mathlib.Core.Path.{◌≡◌, ◌∙◌, ap}
use Rattle.rules.specs.Day.{crossed_in, crossed_out, flags_crossed, with_flag1, with_flag16}
use Rattle.rules.specs.declared.Barrier.{Barrier}
use Rattle.rules.specs.declared.Day.{Day}

module _ (d : Day) (bar : Barrier) (flags : ℕ) where
  by_in : (t : Bool) → crossed_in d bar ≡ t → flags_crossed d bar flags ≡ cond t (with_flag1 flags) (cond (crossed_out d bar) (with_flag16 flags) flags)
  by_in t e = ap (λ (x : Bool). cond x (with_flag1 flags) (cond (crossed_out d bar) (with_flag16 flags) flags)) e

  pub knocked_in : crossed_in d bar ≡ true → flags_crossed d bar flags ≡ with_flag1 flags
  knocked_in e = by_in true e

  module _ (e : crossed_in d bar ≡ false) where
    by_out : (t : Bool) → crossed_out d bar ≡ t → flags_crossed d bar flags ≡ cond t (with_flag16 flags) flags
    by_out t q = by_in false e ∙ ap (λ (x : Bool). cond x (with_flag16 flags) flags) q

    pub knocked_out : crossed_out d bar ≡ true → flags_crossed d bar flags ≡ with_flag16 flags
    knocked_out q = by_out true q

    pub not_crossed : crossed_out d bar ≡ false → flags_crossed d bar flags ≡ flags
    not_crossed q = by_out false q
