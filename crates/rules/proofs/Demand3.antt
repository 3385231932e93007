-- Demand 3 of document 01, over the bytes of every file: four theorems, each after the bullet of document 01 ("Demand 3
-- means this, for every accepted file") that it states, and one that ties them to the answer of the operation. Before them
-- the cover for long expiries (document 02 [11]), of which the cover is a case. The statements are in specs/Promises.antt and
-- specs/LongExpiries.antt.
-- Assumes nothing.
use Prim.Native.Nat.{ℕ, ◌+◌, ◌≤◌}
use mathlib.Core.Bool.{Bool, true, false, cond}
use mathlib.Core.List.{List}
use mathlib.Core.Path.{◌≡◌, refl, ap, ap₂, sym, subst}
use native.Mathlib.Omega.{arith}
use lib.Dec.{ltb}
use lib.ListN.{length}
use Rattle.rules.proofs.AccountCover as AccountCover
use Rattle.rules.proofs.AccountCover.{PairsCovered, RowsCovered}
use Rattle.rules.proofs.BlockedRows.{blocked_fits}
use Rattle.rules.proofs.Cover.{covers_long}
use Rattle.rules.proofs.Least.{least_for}
use Rattle.rules.proofs.MayPair.{may_pairable, no_flag_16}
use Rattle.rules.proofs.PairCover.{pair_covers}
use Rattle.rules.proofs.PairPromises as PairPromises
use Rattle.rules.proofs.Proviso.{fb_of_others, none_at_most}
use Rattle.rules.proofs.Reading.{accepted_within}
use Rattle.rules.proofs.RowFacts.{beside, flag_16_keeps, rebate_none}
use Rattle.rules.specs.File.{Account, account_of, layout, position_of, position_row, series_of, series_of_row, series_row}
use Rattle.rules.specs.Limits.{FileWithin}
use Rattle.rules.specs.Lines.{comes_to, entries_for, lines, lines_for, lines_given, margin_answer, margin_for_list, total}
use Rattle.rules.specs.LongExpiries.{CoverLongDemand, NoExceptedPut}
use Rattle.rules.specs.Paths.{payment}
use Rattle.rules.specs.Promises.{ContractsDemand, CoverDemand, Least, LeastDemand, LowFactors, UnmadeDemand}
use Rattle.rules.specs.Refusals.{accepted, file_read, meaning, meant, refused_at}
use Rattle.rules.specs.declared.Refusal.TheVariants.{ListTooShort}
use Rattle.std.specs.Prelude.{Result, Ok, Err}
use Rattle.rules.specs.declared.Refused.{Refused}
use Rattle.rules.specs.declared.Layout.{Layout}
use Rattle.rules.proofs.SameAnswers.{same_total}

-- Row by row, of a file within its limits.
module _ (b : List ℕ) (h : FileWithin b) where
  least_within : LowFactors (account_of b (layout b)) → Least (account_of b (layout b))
  unfolding layout
  least_within factors r there written =
      let row = position_row b (layout b) r in
      let within = h.position_rows_lem r there in
      let k = series_row b (layout b) row.series in
      least_for (series_of k) (position_of row)
      (h.series_rows_lem row.series within.series_below).fa_least
      (factors row.series within.series_below)
      (beside within)
      (rebate_none within)
      (flag_16_keeps within)

  none_excepted : LowFactors (account_of b (layout b)) → NoExceptedPut (account_of b (layout b))
  unfolding layout
  none_excepted factors r there =
      let row = position_row b (layout b) r in
      none_at_most (series_of (series_row b (layout b) row.series)) (position_of row)
      (factors row.series (h.position_rows_lem r there).series_below)

  rows_within : NoExceptedPut (account_of b (layout b)) → RowsCovered (account_of b (layout b))
  unfolding layout
  rows_within none path each r there written =
      let row = position_row b (layout b) r in
      let s = series_of (series_row b (layout b) row.series) in
      let below = (h.position_rows_lem r there).series_below in
      covers_long s (position_of row)
      (h.series_rows_lem row.series below).fa_least
      (fb_of_others s (position_of row) (none r there) written)
      (path row.series)
      (each row.series below)

  pairs_within : PairsCovered (account_of b (layout b))
  unfolding layout
  pairs_within path each w g there held may u e =
      let a : Account = account_of b (layout b) in
      let i = (a.position_at w).series in
      let below = (h.position_rows_lem w there).series_below in
      let pair = may_pairable a w g may in
      subst (λ (j : ℕ). payment (series_of_row a w) (a.position_at w) (path i) ≤ u + payment (a.series_at j) (a.position_at g) (path j)) pair.one_series
      (pair_covers (series_of_row a w) (a.position_at g) (a.position_at w) u (no_flag_16 (a.position_at g) pair.held_may) (no_flag_16 (a.position_at w) pair.written_may) e (path i) (each i below))

module _ (b : List ℕ) (a : Account) (e : meaning b ≡ accepted a) where
  -- Where every fb is at most 1,000,000 the proviso of document 02 [11] holds.
  pub low_factors_enough : LowFactors a → NoExceptedPut a
  low_factors_enough factors =
      let known = accepted_within b a e in
      subst NoExceptedPut (sym known.1) (none_excepted b known.0 (subst LowFactors known.1 factors))

  -- Where the proviso holds, each written row is covered by its unit margin,
  pub rows_covered_long : NoExceptedPut a → RowsCovered a
  rows_covered_long none =
      let known = accepted_within b a e in
      subst RowsCovered (sym known.1) (rows_within b known.0 (subst NoExceptedPut known.1 none))

  -- and each pair, whatever fb is, by its spread.
  pub pairs_covered_long : PairsCovered a
  pairs_covered_long =
      let known = accepted_within b a e in
      subst PairsCovered (sym known.1) (pairs_within b known.0)

-- Each written row is covered by its unit margin, and each pair by its spread.
module _ (b : List ℕ) (a : Account) (e : meaning b ≡ accepted a) (factors : LowFactors a) where
  pub rows_covered : RowsCovered a
  rows_covered = rows_covered_long b a e (low_factors_enough b a e factors)

  pub pairs_covered : PairsCovered a
  pairs_covered = pairs_covered_long b a e

-- Document 02 [11]: "We want the total shown sufficient for every accepted account with any fb, provided that it has no written
-- put with an up-and-in barrier not yet knocked in within a series whose fb is above 1,000,000." That the proviso is needed is
-- `LongExpiryTables.proviso_needed`.
pub cover_long : (b : List ℕ) → CoverLongDemand b
cover_long b a e none = AccountCover.cover a (blocked_fits b a e) (rows_covered_long b a e none) (pairs_covered_long b a e)

-- "The cover, where every fb is at most 1,000,000: for every choice of one path for each series, total × 1,000,000 plus
-- what the pairs bring in is at least what the written rows pay out. All rows of a series follow its path. A written row
-- pays out its payment × M × Q. A pair brings in its held row's payment × M × the pair's quantity. Both are summed over
-- the whole account; held contracts outside the pairs bring in nothing."
pub cover : (b : List ℕ) → CoverDemand b
cover b a e factors = cover_long b a e (low_factors_enough b a e factors)

-- "Contracts: for every row, the quantities of the pair lines that name it and the quantity of its left line (0 if it
-- has none) add up to Q."
pub contracts : (b : List ℕ) → ContractsDemand b
contracts b a e = PairPromises.contracts a (blocked_fits b a e)

-- "Pairs left unmade: after all pair lines, with the contracts left in a row being Q less the quantities of the pair
-- lines that name it, no pair is allowed. A pair lowers the margin where the written unit margin is greater than the
-- spread's." Document 02 [9]: there "a held row has contracts left only while some" of Q less the blocked "are unused".
pub unmade : (b : List ℕ) → UnmadeDemand b
unmade b a e = PairPromises.unmade a

-- "The least amount, where every fb is at most 1,000,000: an amount per unit, in whole fine units, covers a position if
-- it is at least the position's payment on every path of its series. The unit margin of each written row covers it.
-- Every other amount that covers it and is at least MM is, with one fine unit added, at least that unit margin." Of a row with
-- flag 16 the "least amount is REB without the minimum" (document 02 [5]).
pub least : (b : List ℕ) → LeastDemand b
least b a e factors =
    let known = accepted_within b a e in
    subst Least (sym known.1) (least_within b known.0 (subst LowFactors known.1 factors))

-- What the operation answers is what the four theorems speak of: where it gives a line count and a total, the file is
-- accepted, and they and the lines written are its account's.
pub answered : (b : List ℕ) (n count sum : ℕ) → margin_answer b n ≡ comes_to count sum
    → (a : Account) × (meaning b ≡ accepted a) × (count ≡ length (lines a)) × (sum ≡ total a) × (lines_given b n ≡ lines a)
unfolding margin_answer lines_given meaning
answered b n count sum e = by_reading (file_read b) refl e
  where
    by_reading : (x : Result Layout Refused) → file_read b ≡ x → margin_for_list b n x ≡ comes_to count sum
        → (a : Account) × (meaning b ≡ accepted a) × (count ≡ length (lines a)) × (sum ≡ total a) × (lines_given b n ≡ lines a)
    by_reading (Err refusal) r q = let z : ◌≡◌ {A = ℕ} 0 1 = cc in absurd (omega arith)
    by_reading (Ok l) r q = by_room (ltb n (entries_for l.positions)) q
      where
        by_room : (t : Bool)
            → cond t (refused_at ListTooShort 0) (comes_to (length (lines (account_of b l))) (total (account_of b l))) ≡ comes_to count sum
            → (a : Account) × (meaning b ≡ accepted a) × (count ≡ length (lines a)) × (sum ≡ total a) × (lines_given b n ≡ lines a)
        by_room true p = let z : ◌≡◌ {A = ℕ} 0 1 = cc in absurd (omega arith)
        by_room false p =
            let same = same_total p in
            (account_of b l, ap (meant b) r, sym same.0, sym same.1, ap₂ (lines_for b) r e)
