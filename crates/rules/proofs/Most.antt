-- Document 02 [6], how large amounts get: those of a position, of a line and of the total of every accepted file. They are
-- as large as before whole reais: 9,999,999,900,000,000 is a multiple of 100, and where pairs add to the total by the
-- rounding of their lines there is a held row, whose premium is smaller than that.
-- Assumes nothing.
use Prim.Native.Nat.{ℕ, ◌+◌, ◌*◌, ◌≤◌, ◌<◌}
use mathlib.Core.Bool.{true, false}
use mathlib.Core.List.{List, [], ◌∷◌}
use mathlib.Core.Logic.{◌⊎◌, inl, inr}
use mathlib.Core.Path.{◌≡◌, refl, sym, ap, ap₂, subst, ◌∙◌}
use native.Mathlib.Nat.{mul-le-mul}
use native.Mathlib.Omega.{arith}
use lib.ListN.{length}
use borrow.Author.Tests.{eq-eqb}
use Rattle.rules.proofs.BlockedRows as BlockedRows
use Rattle.rules.proofs.BlockedRows.{BlockedFits, amounts_after, fits_of_file}
use Rattle.rules.proofs.Bounds.{unit_most}
use Rattle.rules.proofs.Counts.{bound}
use Rattle.rules.proofs.LineLaws.{each_line, lines_are, total_is}
use Rattle.rules.proofs.MayPair.{may_pairable}
use Rattle.rules.proofs.Raised.{sums_raised}
use Rattle.rules.proofs.Reading.{accepted_within}
use Rattle.rules.proofs.Rounds.{made_left, named}
use Rattle.rules.proofs.Sums.{each_both, sum_to_add, sum_to_alike, sum_to_least, sum_to_none, sum_to_same, sum_to_scale, sum_to_under}
use Rattle.rules.proofs.Tests.{lt_or_ge}
use Rattle.rules.proofs.Weights.{Sound, made_sound}
use Rattle.rules.specs.File.{Account, account_of, layout, position_count, position_row, series_of_row}
use Rattle.rules.specs.Limits.{FileWithin, most_positions}
use Rattle.rules.specs.Lines.{Each, held_premium, left_amount, left_amount_at, left_with_blocked, line_amount, lines, premium_at, premiums, spread_amount, sum_over, sum_to, total, total_after}
use Rattle.rules.specs.OnePosition.{amount_by_side, amount_of, position_amount, premium_of, unit_margin}
use Rattle.rules.specs.Pairs.{Made, available, book_of, contracts_after, pairs_after}
use Rattle.rules.specs.Reais.{MostDemand, WithinMost, most_amount, most_total}
use Rattle.rules.specs.Refusals.{accepted, meaning}
use Rattle.rules.specs.declared.Barrier.TheVariants.{NoBarrier}
use Rattle.rules.specs.declared.Limiter.TheVariants.{NoLimiter}
use Rattle.rules.specs.declared.OptionType.TheVariants.{Call}
use Rattle.rules.specs.declared.Position.{Position}
use Rattle.rules.specs.declared.Series.{Series}
use Rattle.rules.specs.declared.Side.{Side}
use Rattle.rules.specs.declared.Side.TheVariants.{Held, Written}

-- How large the numbers of a row of an accepted file are.
record RowMost (s : Series) (p : Position) : Type 0 where
  pub unit_most : unit_margin s p ≤ 99_999_999_000_000
  pub m_most : s.m ≤ 1_000
  pub q_most : p.q ≤ 100_000
  pub premium_most : p.premium ≤ 10_000_000

amount_most : (u m q : ℕ) → u ≤ 99_999_999_000_000 → m ≤ 1_000 → q ≤ 100_000 → amount_of u m q ≤ most_amount
amount_most u m q a b c =
    let product : u * m * q ≤ 1_000_000 * most_amount = mul-le-mul (mul-le-mul a b) c in
    omega arith

-- 1 for a held row.
abbrev held_once : Side → ℕ
held_once Held = 1
held_once Written = 0

module _ (s : Series) (p : Position) (f : RowMost s p) where
  premium_below : premium_of s p ≤ 1_000_000_000_000_000
  premium_below = mul-le-mul (mul-le-mul f.premium_most f.m_most) f.q_most

  side_most : (side : Side) → amount_by_side side s p ≤ most_amount
  side_most Held = omega (arith, premium_below)
  side_most Written = amount_most _ _ _ f.unit_most f.m_most f.q_most

  -- A left line's amount and the row's premium; a held row is below the largest amount by more than 256 roundings.
  left_most : (side : Side) (q : ℕ) → q ≤ p.q
      → left_amount side s p q + held_premium side s p + 100 * most_positions * held_once side ≤ most_amount
  left_most Held q l = omega (arith, premium_below)
  left_most Written q l = omega (arith, amount_most _ _ q f.unit_most f.m_most (omega (arith, f.q_most)))

module _ (a : Account) where
  abbrev held : ℕ → ℕ
  held r = held_once (a.position_at r).side

  sound : (n : ℕ) → Each (Sound (book_of a)) (pairs_after a n)
  sound = made_sound (book_of a) (available a)

  -- Without a held row there is no pair.
  none_paired : sum_to held a.positions ≡ 0 → (l : List Made) → Each (Sound (book_of a)) l → l ≡ []
  none_paired none [] each = refl
  none_paired none (m ∷ l) each =
      let p = may_pairable a m.written m.held each.0.may_pair_lem in
      let one : held m.held ≡ 1 = ap held_once p.is_held_lem in
      absurd (omega (arith, one, sum_to_least held a.positions m.held each.0.held_below))

  -- A pair has no more contracts than its written row.
  quantities_most : (l : List Made) → ((r : ℕ) → sum_over (named r) l ≤ available a r) → Each (λ m. m.quantity ≤ available a m.written) l
  unfolding sum_over
  quantities_most [] e = tt
  quantities_most (m ∷ l) e =
      let itself : named m.written m ≡ m.quantity = rw (eq-eqb m.written m.written refl) refl in
      (omega (arith, itself, e m.written), quantities_most l (λ r. omega (arith, e r)))

module _ (a : Account) (fits : BlockedFits a) (rows : (r : ℕ) → r < a.positions → RowMost (series_of_row a r) (a.position_at r)) (few : a.positions ≤ most_positions) where
  row_most : (r : ℕ) → r < a.positions → (q : ℕ) → q ≤ (a.position_at r).q
      → left_amount_at a r q + premium_at a r + 100 * most_positions * held a r ≤ most_amount
  row_most r l q less = left_most (series_of_row a r) (a.position_at r) (rows r l) (a.position_at r).side q less

  spread_most : (m : Made) → Sound (book_of a) m → m.quantity ≤ available a m.written → spread_amount a m ≤ most_amount
  spread_most m s no_more =
      let p = may_pairable a m.written m.held s.may_pair_lem in
      let written = rows m.written s.written_below in
      rw p.spread_is
      (amount_most p.spread _ m.quantity (omega (arith, p.spread_less, written.unit_most)) written.m_most (omega (arith, written.q_most)))

  lines_most : Each (λ x. line_amount x ≤ most_amount) (lines a)
  lines_most =
      rw (lines_are a)
      (each_line a (λ x. line_amount x ≤ most_amount) pairs (left_with_blocked a a.positions) a.positions spreads
      (λ r l. omega (arith, row_most r l (left_with_blocked a a.positions r) (BlockedRows.left_most a fits a.positions r l))))
    where
      pairs : List Made
      pairs = pairs_after a a.positions

      spreads : Each (λ m. spread_amount a m ≤ most_amount) pairs
      spreads =
          each_both spread_most pairs (sound a a.positions)
          (quantities_most a pairs (λ r. omega (arith, made_left (book_of a) (available a) a.positions r)))

  -- All rows without pairs, with their premiums.
  rows_most : sum_to (λ r. left_amount_at a r (available a r)) a.positions + sum_to (premium_at a) a.positions + 100 * most_positions * sum_to (held a) a.positions
      ≤ most_amount * a.positions
  rows_most =
      omega (
        arith,
        sum_to_under (λ r. left_amount_at a r (available a r) + premium_at a r + 100 * most_positions * held a r) most_amount a.positions
            (λ r l. row_most r l (available a r) (omega arith)),
        sum_to_add (λ r. left_amount_at a r (available a r) + premium_at a r) (λ r. 100 * most_positions * held a r) a.positions,
        sum_to_add (λ r. left_amount_at a r (available a r)) (premium_at a) a.positions,
        sum_to_scale (held a) (100 * most_positions) a.positions,
      )

  -- Pairs are at most p, and none where there is no held row.
  pairs_most : (n : ℕ) → length (pairs_after a n) ≤ most_positions * sum_to (held a) a.positions
  pairs_most n = by_held (lt_or_ge 0 (sum_to (held a) a.positions))
    where
      by_held : (0 < sum_to (held a) a.positions) ⊎ (sum_to (held a) a.positions ≤ 0)
          → length (pairs_after a n) ≤ most_positions * sum_to (held a) a.positions
      by_held (inl some) = omega (arith, bound (book_of a) (available a) n)
      by_held (inr none) = omega (arith, ap length (none_paired a (omega arith) (pairs_after a n) (sound a n)))

  -- After any number of rounds.
  after_most : (n : ℕ) → total_after a n ≤ most_total
  unfolding premiums
  after_most n =
      omega (arith, amounts_after a fits n, sums_raised a n, rows_most, pairs_most n)

  total_most : total a ≤ most_total
  total_most = rw (total_is a) (after_most a.positions)

rows_of_file : (b : List ℕ) → FileWithin b → (r : ℕ) → r < position_count b
    → RowMost (series_of_row (account_of b (layout b)) r) ((account_of b (layout b)).position_at r)
unfolding layout
rows_of_file b h r l =
    let p = h.position_rows_lem r l in
    let s = h.series_rows_lem (position_row b (layout b) r).series p.series_below in
    record { unit_most = unit_most s p; m_most = s.m_most; q_most = p.q_most; premium_most = p.premium_most }

most_of_file : (b : List ℕ) → FileWithin b → WithinMost (account_of b (layout b))
unfolding layout position_amount
most_of_file b h =
    let a : Account = account_of b (layout b) in
    record {
      position_most = λ r l. side_most (series_of_row a r) (a.position_at r) (rows_of_file b h r l) (a.position_at r).side;
      line_most = lines_most a (fits_of_file b h) (rows_of_file b h) h.trailer.positions_most;
      total_most = total_most a (fits_of_file b h) (rows_of_file b h) h.trailer.positions_most;
    }

pub within_most : (b : List ℕ) → MostDemand b
within_most b a e =
    let known = accepted_within b a e in
    subst WithinMost (sym known.1) (most_of_file b known.0)

-- The amount after any number of pairs is no larger (document 02 [7]).
pub within_most_after : (b : List ℕ) (a : Account) → meaning b ≡ accepted a → (n : ℕ) → total_after a n ≤ most_total
unfolding layout
within_most_after b a e n =
    let known = accepted_within b a e in
    subst (λ (x : Account). total_after x n ≤ most_total) (sym known.1)
    (after_most (account_of b (layout b)) (fits_of_file b known.0) (rows_of_file b known.0) known.0.trailer.positions_most n)

-- An account without held rows: each written row has its own line, with all its contracts.
no_held_total : (a : Account) → BlockedFits a → sum_to (held a) a.positions ≡ 0
    → total a ≡ sum_to (λ r. left_amount_at a r (available a r)) a.positions + premiums a
unfolding sum_over
no_held_total a fits none =
    let pairs = pairs_after a a.positions in
    let left = contracts_after a a.positions in
    let empty = none_paired a none pairs (sound a a.positions) in
    rw (total_is a)
    (omega (
      arith,
      amounts_after a fits a.positions,
      ap (sum_over (spread_amount a)) empty,
      sum_to_same (λ r. left_amount_at a r (left r)) (λ r. left_amount_at a r (available a r)) a.positions
          (λ r l. ap (left_amount_at a r) (omega (arith, made_left (book_of a) (available a) a.positions r, ap (sum_over (named r)) empty))),
    ))

-- 256 rows with the largest amount have the largest total.
abbrev largest_account : Account
largest_account =
    record {
      series = 1;
      series_at = λ i. record { pv = 10_000_000; fa = 10_000_000; fb = 0; f3 = 0; m = 1_000; option = Call };
      positions = most_positions;
      position_at = λ r. record {
        series = 0;
        side = Written;
        terms = record { pe = 1; limiter = NoLimiter; barrier = NoBarrier; reb = 0 };
        flags = record { knockedIn = false; limited = false; european = true; beforeAnnex = false; knockedOut = false };
        q = 100_000;
        blocked = 0;
        premium = 0;
      };
    }

pub total_reached : total largest_account ≡ most_total
unfolding unit_margin premiums
total_reached =
    no_held_total largest_account (record { most = λ r l. omega arith; written = λ r l e. refl }) (sum_to_none (held largest_account) most_positions (λ r l. refl))
    ∙ ap₂ (λ x y. x + y)
    (sum_to_same _ (λ r. most_amount) most_positions (λ r l. refl) ∙ sum_to_alike most_amount most_positions)
    (sum_to_none (premium_at largest_account) most_positions (λ r l. refl))
