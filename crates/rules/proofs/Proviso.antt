-- The proviso of document 02 [11], row by row: what it says of fb, and where fb is at most 1,000,000.
-- Assumes nothing.
use Prim.Native.Nat.{ℕ, ◌≤◌}
use mathlib.Core.Bool.{Bool, true, false, false≢true}
use mathlib.Core.Path.{◌≡◌, refl, ap, sym, ◌∙◌}
use borrow.Author.Tests.{le-ltb, ltb-false}
use lib.Dec.{ltb}
use Rattle.rules.proofs.Tests.{one_fails}
use Rattle.rules.specs.LongExpiries.{is_excepted_put, is_written_up_and_in_put, is_up_and_in}
use Rattle.rules.specs.OnePosition.{after_flag1, normal}
use Rattle.rules.specs.declared.Barrier.TheVariants.{UpIn}
use Rattle.rules.specs.declared.OptionType.TheVariants.{Put}
use Rattle.rules.specs.declared.Position.{Position}
use Rattle.rules.specs.declared.Series.{Series}
use Rattle.rules.specs.declared.Side.TheVariants.{Written}
use Rattle.rules.specs.declared.Terms.{Terms}

-- A barrier that is up-and-in once flag 1 is applied is so in the row, and the row has no flag 1.
up_in_before :
    (t : Bool) (p : Terms) (iu : ℕ) → (after_flag1 t p).barrier ≡ UpIn iu → (is_up_and_in p.barrier ≡ true) × (t ≡ false)
up_in_before true p iu e = absurd (false≢true (ap is_up_and_in e))
up_in_before false p iu e = (ap is_up_and_in e, refl)

module _ (s : Series) (p : Position) where
  -- A written put with an up-and-in barrier and without flag 1 is excepted by the fb of its series alone.
  by_factor :
      p.side ≡ Written → s.option ≡ Put → is_up_and_in p.terms.barrier ≡ true → p.flags.knockedIn ≡ false
      → is_excepted_put s p ≡ ltb 1_000_000 s.fb
  by_factor written put up_in before = rw (written, put, up_in, before) refl

  -- Where it is not excepted, that fb is at most 1,000,000.
  pub fb_of_others :
      is_excepted_put s p ≡ false → p.side ≡ Written
      → (iu : ℕ) → s.option ≡ Put → (normal p).barrier ≡ UpIn iu → s.fb ≤ 1_000_000
  fb_of_others none written iu put up =
      let before = up_in_before p.flags.knockedIn p.terms iu up in
      ltb-false 1_000_000 s.fb (sym (by_factor written put before.0 before.1) ∙ none)

  -- No row of a series whose fb is at most 1,000,000 is excepted.
  pub none_at_most : s.fb ≤ 1_000_000 → is_excepted_put s p ≡ false
  none_at_most most = one_fails (is_written_up_and_in_put s p) _ (λ _. le-ltb 1_000_000 s.fb most)
