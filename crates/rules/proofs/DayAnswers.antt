-- What the operation answers to a day, for every file and every day: of a refused file its number and row; of an accepted
-- one 16, 17 or that the day is applied, exactly where the series and the prices are within their limits.
-- Assumes nothing.
use Prim.Native.Nat.{ℕ, ◌≤◌, ◌<◌}
use mathlib.Core.Bool.{Bool, true, false, true≢false}
use mathlib.Core.List.{List}
use mathlib.Core.Logic.{◌⊎◌, inl, inr}
use mathlib.Core.Path.{◌≡◌, refl, sym, ◌∙◌, ap, ap₂, subst}
use native.Mathlib.Omega.{arith}
use borrow.Author.Tests.{le-leb, le-ltb, leb-false, leb-true, lt-leb}
use lib.Dec.{leb, ltb}
use Rattle.rules.proofs.Answers.{accepted_read, refused_read}
use Rattle.rules.proofs.Chain.{five_fail, in_range}
use Rattle.rules.proofs.DayPromises.{applied_clean, day_applied, file_refused, not_applied, prices_refused, series_refused}
use Rattle.rules.specs.Day.{DayWithin, applied, day_answer, day_written, wrong_day}
use Rattle.rules.specs.File.{Account, account_of, layout}
use Rattle.rules.specs.Refusals.{accepted, file_read, meaning, meant, number, outside, refused, refused_at}
use Rattle.rules.specs.declared.Day.{Day}
use Rattle.rules.specs.declared.Layout.{Layout}
use Rattle.rules.specs.declared.Refusal.{Refusal}
use Rattle.rules.specs.declared.Refusal.TheVariants.{DayPrices, SeriesAskedFor}
use Rattle.std.specs.Prelude.{Result, Ok, Err}
use Rattle.rules.specs.declared.Refused.{Refused}
use Rattle.rules.proofs.SameAnswers.{same_refused}

-- A day within its limits passes 17's test.
prices_right : (s : ℕ) (d : Day) → DayWithin s d → wrong_day d ≡ false
prices_right s d w =
    five_fail (ltb d.high d.low) (outside d.low d.high d.close) (outside 1 10_000_000 d.high) (outside 1 10_000_000 d.low) (outside 1 10_000_000 d.close)
    (le-ltb d.high d.low (omega (arith, w.close_least, w.close_most)))
    (in_range d.low d.high d.close w.close_least w.close_most)
    (in_range 1 10_000_000 d.high (omega (arith, w.low_least, w.close_least, w.close_most)) w.high_most)
    (in_range 1 10_000_000 d.low w.low_least (omega (arith, w.close_least, w.close_most, w.high_most)))
    (in_range 1 10_000_000 d.close (omega (arith, w.low_least, w.close_least)) (omega (arith, w.close_most, w.high_most)))

module _ (b : List ℕ) (d : Day) where
  -- "The reading's refusals first"
  pub day_of_refused : (n row : ℕ) → meaning b ≡ refused n row → (w : Refusal) × (number w ≡ n) × (day_answer b d ≡ refused_at w row)
  day_of_refused n row e =
      let r = refused_read b n row e in
      (r.0, r.1, sym (file_refused b d b r.0 row r.2 refl).0)

  -- An accepted file, with the layout that its account was read by.
  module _ (a : Account) (e : meaning b ≡ accepted a) where
    read : file_read b ≡ Ok (layout b)
    read = (accepted_read b a e).0

    count : a.series ≡ (layout b).series
    count = ap (λ (x : Account). x.series) (accepted_read b a e).1

    there : d.series < a.series → leb (layout b).series d.series ≡ false
    there h = lt-leb (layout b).series d.series (omega (arith, count))

    -- "then 16: series not in the account"
    pub day_no_series : a.series ≤ d.series → day_answer b d ≡ refused_at SeriesAskedFor 0
    day_no_series h = sym (series_refused b d (layout b) read b (le-leb (layout b).series d.series (omega (arith, count))) refl).0

    -- "17: high below low, close outside them, or any of the three not 1 to 10,000,000"
    pub day_wrong_prices : d.series < a.series → (DayWithin a.series d → ⊥) → day_answer b d ≡ refused_at DayPrices 0
    day_wrong_prices h out = go (wrong_day d) refl
      where
        go : (t : Bool) → wrong_day d ≡ t → day_answer b d ≡ refused_at DayPrices 0
        go true q = sym (prices_refused b d (layout b) read b (there h) q refl).0
        go false q =
            let applied = day_applied b d (layout b) read (day_written b (layout b) d) (there h) q refl in
            absurd (out (subst (λ (n : ℕ). DayWithin n d) (sym count) (applied_clean b d (layout b) read (sym applied.0))))

    pub day_done : DayWithin a.series d → day_answer b d ≡ applied
    day_done w =
        sym (day_applied b d (layout b) read (day_written b (layout b) d) (there w.series_below) (prices_right a.series d w) refl).0

  -- The other way round: only a day within its limits is applied, and only to an accepted file.
  pub day_only : day_answer b d ≡ applied → (a : Account) × (meaning b ≡ accepted a) × DayWithin a.series d
  unfolding meaning
  day_only z = go (file_read b) refl
    where
      go : (x : Result Layout Refused) → file_read b ≡ x → (a : Account) × (meaning b ≡ accepted a) × DayWithin a.series d
      go (Ok l) q = (account_of b l, rw q refl, applied_clean b d l q z)
      go (Err refusal) q =
          absurd (not_applied refusal.why refusal.row ((file_refused b d b refusal.why refusal.row q refl).0 ∙ z))

  -- A refusal is the reading's; or 16, where the account has no such series; or 17, where it has and the prices are not within
  -- their limits. The latter two have row 0.
  pub day_refusal_is : (w : Refusal) (i : ℕ) → day_answer b d ≡ refused_at w i
      → (meaning b ≡ refused (number w) i)
      ⊎ ((a : Account) × (meaning b ≡ accepted a) × (i ≡ 0) × (((a.series ≤ d.series) × (number w ≡ 16)) ⊎ ((d.series < a.series) × (DayWithin a.series d → ⊥) × (number w ≡ 17))))
  unfolding meaning
  day_refusal_is w i z = go (file_read b) refl
    where
      same_refusal : (v : Refusal) (k : ℕ) → refused_at v k ≡ day_answer b d → (number v ≡ number w) × (k ≡ i)
      same_refusal v k e =
          let same = same_refused (e ∙ z) in
          (ap number same.0, same.1)

      by_series : (l : Layout) → file_read b ≡ Ok l → (t : Bool) → leb l.series d.series ≡ t
          → (i ≡ 0) × (((l.series ≤ d.series) × (number w ≡ 16)) ⊎ ((d.series < l.series) × (DayWithin l.series d → ⊥) × (number w ≡ 17)))
      by_series l e true q =
          let told = same_refusal SeriesAskedFor 0 (series_refused b d l e b q refl).0 in
          (sym told.1, inl (leb-true l.series d.series q, sym told.0))
      by_series l e false q = by_prices (wrong_day d) refl
        where
          by_prices : (u : Bool) → wrong_day d ≡ u → (i ≡ 0) × (((l.series ≤ d.series) × (number w ≡ 16)) ⊎ ((d.series < l.series) × (DayWithin l.series d → ⊥) × (number w ≡ 17)))
          by_prices true x =
              let told = same_refusal DayPrices 0 (prices_refused b d l e b q x refl).0 in
              (sym told.1, inr (leb-false l.series d.series q, λ v. true≢false (sym x ∙ prices_right l.series d v), sym told.0))
          by_prices false x =
              absurd (not_applied w i (sym ((day_applied b d l e (day_written b l d) q x refl).0 ∙ z)))

      go : (x : Result Layout Refused) → file_read b ≡ x
          → (meant b x ≡ refused (number w) i)
          ⊎ ((a : Account) × (meant b x ≡ accepted a) × (i ≡ 0) × (((a.series ≤ d.series) × (number w ≡ 16)) ⊎ ((d.series < a.series) × (DayWithin a.series d → ⊥) × (number w ≡ 17))))
      go (Err refusal) q =
          let told = same_refusal refusal.why refusal.row (file_refused b d b refusal.why refusal.row q refl).0 in
          inl (ap₂ refused told.0 told.1)
      go (Ok l) q =
          let told = by_series l q (leb l.series d.series) refl in
          inr (account_of b l, refl, told.0, told.1)
