-- Document 02 [11], Cover for long expiries: its proviso, and the cover of every accepted file with any fb. The cover is document
-- 01's (`Promises.Cover`); that of a half-paired account, under the same proviso, is in `Instalments.HalfPairedLongDemand`. "The least
-- amount remains tied to fb at most 1,000,000": `Promises.LeastDemand` is as it was.
use Rattle.std.specs.Prelude.{ℕ, ◌<◌, Bool, true, false, not, ◌&&◌, List, ◌≡◌, ltb}
use Rattle.rules.specs.File.{Account, series_of_row}
use Rattle.rules.specs.Pairs.{is_written}
use Rattle.rules.specs.Promises.{Cover}
use Rattle.rules.specs.Refusals.{accepted, meaning}
use Rattle.rules.specs.declared.Barrier.{Barrier}
use Rattle.rules.specs.declared.Barrier.TheVariants.{NoBarrier, UpIn, DownIn, UpOut, DownOut}
use Rattle.rules.specs.declared.OptionType.{OptionType}
use Rattle.rules.specs.declared.OptionType.TheVariants.{Call, Put}
use Rattle.rules.specs.declared.Position.{Position}
use Rattle.rules.specs.declared.Series.{Series}

-- "put"
abbrev pub is_put : OptionType → Bool
is_put Call = false
is_put Put = true

-- "with an up-and-in barrier"
abbrev pub is_up_and_in : Barrier → Bool
is_up_and_in NoBarrier = false
is_up_and_in (UpIn iu) = true
is_up_and_in (DownIn id) = false
is_up_and_in (UpOut ou) = false
is_up_and_in (DownOut od) = false

-- "a written put with an up-and-in barrier not yet knocked in": whether position p of series s is one. Not yet knocked in is
-- without flag 1.
abbrev pub is_written_up_and_in_put : Series → Position → Bool
is_written_up_and_in_put s p =
    is_written p.side && is_put s.option && is_up_and_in p.terms.barrier && not p.flags.knockedIn

-- "within a series whose fb is above 1,000,000": such a put is excepted.
abbrev pub is_excepted_put : Series → Position → Bool
is_excepted_put s p = is_written_up_and_in_put s p && ltb 1_000_000 s.fb

-- "provided that it has no" such put
abbrev pub NoExceptedPut : Account → Type 0
NoExceptedPut a = (r : ℕ) → r < a.positions → is_excepted_put (series_of_row a r) (a.position_at r) ≡ false

-- "We want the total shown sufficient for every accepted account with any fb, provided that" it has no such put: of a file, for
-- whatever account its bytes mean.
abbrev pub CoverLongDemand : List ℕ → Type 0
CoverLongDemand b = (a : Account) → meaning b ≡ accepted a → NoExceptedPut a → Cover a

-- An accepted file whose total does not cover: that it does is false (`→ ⊥`). Such a file shows that the proviso is needed.
pub record NotCoveredFile (b : List ℕ) : Type 0 where
  pub account : Account
  pub is_accepted : meaning b ≡ accepted account
  pub not_covered : Cover account → ⊥
