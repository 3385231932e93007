-- Document 02 [5] of every file and every day: "Only flags of that series and its PV are written", "A file accepted before is
-- accepted after", "The same day applied again alters no byte". And what the operation answers, check by check, for code.
-- Assumes nothing.
use Prim.Native.Nat.{ℕ}
use mathlib.Core.Bool.{true, false}
use mathlib.Core.List.{List}
use mathlib.Core.Path.{◌≡◌, refl, sym, ◌∙◌, ap, subst}
use native.Mathlib.Omega.{arith}
use borrow.Author.Tests.{leb-false}
use lib.Dec.{leb, ltb}
use lib.ListN.{length}
use Rattle.rules.proofs.Chain.{all_pass, inside, none_of_five, passes, stops}
use Rattle.rules.proofs.DayFile.{account_after, day_within, same_layout, written_again}
use Rattle.rules.proofs.DayLaws.{day_length}
use Rattle.rules.proofs.DayLaws as DayLaws
use Rattle.rules.proofs.Reading.{accepted_within, read_within, within_accepted, within_read}
use Rattle.rules.proofs.TrailerLimits.{placed}
use Rattle.rules.specs.Day.{AcceptedAfterDemand, After, DayWithin, OnlyWrittenDemand, SameDayAgainDemand, Untouched, answer_by, answer_read, applied, bytes_by, bytes_read, day_answer, day_checks, day_fault, day_written, file_after, wrong_day}
use Rattle.rules.specs.File.{Account, account_of, layout, series_count, u8_at}
use Rattle.rules.specs.Limits.{FileWithin, Placed}
use Rattle.rules.specs.Refusals.{Fault, accepted, clean, file_read, meaning, outside, refuse, refused_at}
use Rattle.rules.specs.declared.Day.{Day}
use Rattle.rules.specs.declared.Layout.{Layout}
use Rattle.rules.specs.declared.Refusal.{Refusal}
use Rattle.rules.specs.declared.Refusal.TheVariants.{DayPrices, SeriesAskedFor}
use Rattle.std.specs.Prelude.{Result, Ok, Err}
use Rattle.rules.specs.declared.Refused.{Refused}

pub not_applied : (w : Refusal) (i : ℕ) → refused_at w i ≡ applied → ⊥
not_applied w i e = let z : ◌≡◌ {A = ℕ} 0 1 = cc in omega arith

-- A day without fault is within its limits.
clean_day : (s : ℕ) (d : Day) → day_fault s d ≡ clean → DayWithin s d
unfolding day_fault
clean_day s d e =
    let passed = all_pass (day_checks s d) e in
    let prices = none_of_five (ltb d.high d.low) (outside d.low d.high d.close) (outside 1 10_000_000 d.high) (outside 1 10_000_000 d.low) (outside 1 10_000_000 d.close) passed.1.0 in
    let close = inside d.low d.high d.close prices.1 in
    record {
      series_below = leb-false s d.series passed.0;
      low_least = (inside 1 10_000_000 d.low prices.3).0;
      close_least = close.0;
      close_most = close.1;
      high_most = (inside 1 10_000_000 d.high prices.2).1;
    }

-- An accepted file and a day, by what the day's checks find.
module _ (b : List ℕ) (d : Day) (l : Layout) (e : file_read b ≡ Ok l) where
  answer_is : (f : Fault) → day_fault l.series d ≡ f → day_answer b d ≡ answer_by f
  unfolding day_answer
  answer_is f q = ap (answer_read d) e ∙ ap answer_by q

  bytes_are : (f : Fault) → day_fault l.series d ≡ f → file_after b d ≡ bytes_by f b (day_written b l d)
  unfolding file_after
  bytes_are f q = ap (bytes_read b d) e ∙ ap (λ (x : Fault). bytes_by x b (day_written b l d)) q

  -- A day that is applied is without fault, and so within its limits; one that is not leaves the bytes.
  pub applied_clean : day_answer b d ≡ applied → DayWithin l.series d
  applied_clean z = go (day_fault l.series d) refl
    where
      go : (f : Fault) → day_fault l.series d ≡ f → DayWithin l.series d
      go (Ok u) q = clean_day l.series d q
      go (Err w) q = absurd (not_applied w 0 (sym (answer_is (Err w) q) ∙ z))

  not_applied_keeps : (w : Refusal) (i : ℕ) → day_answer b d ≡ refused_at w i → file_after b d ≡ b
  not_applied_keeps w i z = go (day_fault l.series d) refl
    where
      go : (f : Fault) → day_fault l.series d ≡ f → file_after b d ≡ b
      go (Ok u) q = absurd (not_applied w i (sym z ∙ answer_is clean q))
      go (Err v) q = bytes_are (Err v) q

  -- For code: the three ways through the day's checks, c being the bytes that it leaves.
  module _ (c : List ℕ) where
    pub series_refused : leb l.series d.series ≡ true → c ≡ b → (refused_at SeriesAskedFor 0 ≡ day_answer b d) × (c ≡ file_after b d)
    unfolding day_fault
    series_refused h is =
        let q : day_fault l.series d ≡ Err SeriesAskedFor = sym (stops (leb l.series d.series) (leb l.series d.series) SeriesAskedFor (refuse (wrong_day d) DayPrices clean) refl h) in
        (sym (answer_is (Err SeriesAskedFor) q), is ∙ sym (bytes_are (Err SeriesAskedFor) q))

    module _ (there : leb l.series d.series ≡ false) where
      past_16 : (f : Fault) → f ≡ refuse (wrong_day d) DayPrices clean → day_fault l.series d ≡ f
      unfolding day_fault
      past_16 f q =
          sym (passes (leb l.series d.series) (leb l.series d.series) SeriesAskedFor (refuse (wrong_day d) DayPrices clean) f refl there q)

      pub prices_refused : wrong_day d ≡ true → c ≡ b → (refused_at DayPrices 0 ≡ day_answer b d) × (c ≡ file_after b d)
      prices_refused t is =
          let q = past_16 (Err DayPrices) (stops (wrong_day d) (wrong_day d) DayPrices clean refl t) in
          (sym (answer_is (Err DayPrices) q), is ∙ sym (bytes_are (Err DayPrices) q))

      pub day_applied : wrong_day d ≡ false → c ≡ day_written b l d → (applied ≡ day_answer b d) × (c ≡ file_after b d)
      day_applied t is =
          let q = past_16 clean (passes (wrong_day d) (wrong_day d) DayPrices clean clean refl t refl) in
          (sym (answer_is clean q), is ∙ sym (bytes_are clean q))

  -- The file within its limits, and the layout its own.
  known : FileWithin b × (l ≡ layout b)
  known = read_within b l e

  stands : Placed b l
  stands = rw known.1 (placed b known.0.trailer)

  own_day : day_fault l.series d ≡ clean → DayWithin (series_count b) d
  unfolding layout
  own_day q = subst (λ (x : Layout). DayWithin x.series d) known.1 (clean_day l.series d q)

  written_is : day_written b l d ≡ day_written b (layout b) d
  written_is = ap (λ (x : Layout). day_written b x d) known.1

  written_read : day_fault l.series d ≡ clean → file_read (day_written b l d) ≡ Ok l
  written_read q =
      ap file_read written_is
      ∙ within_read (day_written b (layout b) d) (day_within b d known.0 (own_day q))
      ∙ ap Ok (same_layout b d known.0 (own_day q) ∙ sym known.1)

  twice : (f : Fault) → day_fault l.series d ≡ f → file_after (file_after b d) d ≡ file_after b d
  unfolding file_after
  twice (Ok u) q =
      rw (bytes_are clean q)
      (ap (bytes_read (day_written b l d) d) (written_read q)
      ∙ ap (λ (x : Fault). bytes_by x (day_written b l d) (day_written (day_written b l d) l d)) q
      ∙ written_again b d l stands (clean_day l.series d q).series_below)
  twice (Err w) q = ap (λ (x : List ℕ). file_after x d) (bytes_are (Err w) q)

  same_length : (f : Fault) → day_fault l.series d ≡ f → length (file_after b d) ≡ length b
  same_length (Ok u) q =
      ap length (bytes_are clean q) ∙ day_length b l d stands
  same_length (Err w) q = ap length (bytes_are (Err w) q)

  others_stay : (f : Fault) → day_fault l.series d ≡ f → (j : ℕ) → Untouched b l d j → u8_at (file_after b d) j ≡ u8_at b j
  others_stay (Ok u) q j neither =
      ap (λ (x : List ℕ). u8_at x j) (bytes_are clean q)
      ∙ DayLaws.only_written b l d stands (clean_day l.series d q).series_below j neither
  others_stay (Err w) q j neither = ap (λ (x : List ℕ). u8_at x j) (bytes_are (Err w) q)

-- "The reading's refusals first .. the bytes then keep their content"
pub file_refused : (b : List ℕ) (d : Day) (c : List ℕ) (w : Refusal) (i : ℕ) → file_read b ≡ refused_at w i → c ≡ b → (refused_at w i ≡ day_answer b d) × (c ≡ file_after b d)
unfolding day_answer file_after
file_refused b d c w i e is = (sym (ap (answer_read d) e), is ∙ sym (ap (bytes_read b d) e))

-- "the bytes then keep their content", on every refusal.
pub refused_keeps : (b : List ℕ) (d : Day) (w : Refusal) (i : ℕ) → day_answer b d ≡ refused_at w i → file_after b d ≡ b
unfolding file_after
refused_keeps b d w i z = go (file_read b) refl
  where
    go : (x : Result Layout Refused) → file_read b ≡ x → file_after b d ≡ b
    go (Ok l) e = not_applied_keeps b d l e w i z
    go (Err refusal) e = ap (bytes_read b d) e

-- "The same day applied again alters no byte."
pub same_day_again : (b : List ℕ) (d : Day) → SameDayAgainDemand b d
unfolding file_after
same_day_again b d = go (file_read b) refl
  where
    go : (x : Result Layout Refused) → file_read b ≡ x → file_after (file_after b d) d ≡ file_after b d
    go (Ok l) e = twice b d l e (day_fault l.series d) refl
    go (Err refusal) e = ap (λ (x : List ℕ). file_after x d) (ap (bytes_read b d) e)

-- "Only flags of that series and its PV are written."
pub only_written : (b : List ℕ) (d : Day) → OnlyWrittenDemand b d
unfolding file_after
only_written b d =
    (go (file_read b) refl, λ l e. others_stay b d l e (day_fault l.series d) refl)
  where
    go : (x : Result Layout Refused) → file_read b ≡ x → length (file_after b d) ≡ length b
    go (Ok l) e = same_length b d l e (day_fault l.series d) refl
    go (Err refusal) e = ap length (ap (bytes_read b d) e)

-- "A file accepted before is accepted after."
pub accepted_after : (b : List ℕ) (d : Day) → AcceptedAfterDemand b d
unfolding layout
accepted_after b d a e =
    let k = accepted_within b a e in
    let r = within_read b k.0 in
    subst (λ (x : Account). (c : Account) × (meaning (file_after b d) ≡ accepted c) × (day_answer b d ≡ applied → After d x c)) (sym k.1)
    (go r k.0 (day_fault (layout b).series d) refl)
  where
    go : file_read b ≡ Ok (layout b) → FileWithin b → (f : Fault) → day_fault (layout b).series d ≡ f
        → (c : Account) × (meaning (file_after b d) ≡ accepted c) × (day_answer b d ≡ applied → After d (account_of b (layout b)) c)
    go r h (Ok u) q =
        let new : List ℕ = day_written b (layout b) d in
        let v = clean_day (series_count b) d q in (
          account_of new (layout new),
          ap meaning (bytes_are b d (layout b) r clean q) ∙ within_accepted new (day_within b d h v),
          λ z. account_after b d h v,
        )
    go r h (Err w) q = (
      account_of b (layout b),
      ap meaning (bytes_are b d (layout b) r (Err w) q) ∙ within_accepted b h,
      λ z. absurd (not_applied w 0 (sym (answer_is b d (layout b) r (Err w) q) ∙ z)),
    )
