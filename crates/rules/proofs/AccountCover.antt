-- Document 01, Paths, demand 3: the cover of an account, after any number of rounds of pairing, from the cover of each
-- written row by its unit margin and of each pair by its spread. Its blocked contracts are within their limits.
-- Assumes nothing.
use Prim.Native.Nat.{ℕ, ◌+◌, ◌*◌, ◌≤◌, ◌<◌}
use mathlib.Core.Bool.{true}
use mathlib.Core.List.{List}
use mathlib.Core.Path.{◌≡◌, refl, sym, ap}
use native.Mathlib.Nat.{mul-le-mul_right}
use native.Mathlib.Omega.{arith}
use Rattle.rules.proofs.BlockedRows.{BlockedFits, all_available, amounts_after}
use Rattle.rules.proofs.LineLaws.{brought, lines_are, total_is}
use Rattle.rules.proofs.MayPair.{apart, may_pairable}
use Rattle.rules.proofs.Sums.{each_map, sum_over-add, sum_over-most, sum_over-scale, sum_to_most, sum_to_same, sum_to_scale}
use Rattle.rules.proofs.Weights.{Sound, made_sound, weighed}
use Rattle.rules.proofs.WholeReais.{rounded_to_reais}
use Rattle.rules.specs.File.{Account, series_of_row}
use Rattle.rules.specs.Lines.{left_amount, left_amount_at, left_with_blocked, lines_after, spread_amount, spread_unit, sum_over, sum_to, total_after}
use Rattle.rules.specs.OnePosition.{amount_of, unit_margin}
use Rattle.rules.specs.Pairs.{Made, available, book_of, contracts_after, may_of, pairs_after}
use Rattle.rules.specs.Promises.{Cover, OnePathEach, line_brings_in, row_payment, row_pays_out, written_pay_out}
use Rattle.rules.specs.Spreads.{unit_spread}
use Rattle.rules.specs.declared.Position.{Position}
use Rattle.rules.specs.declared.Series.{Series}
use Rattle.rules.specs.declared.Side.{Side}
use Rattle.rules.specs.declared.Side.TheVariants.{Held, Written}
use Rattle.std.specs.Prelude.{Option, Some}

-- On every choice of paths each written row pays at most its unit margin.
abbrev pub RowsCovered : Account → Type 0
RowsCovered a =
    (path : ℕ → List ℕ) → OnePathEach a path
    → (r : ℕ) → r < a.positions → (a.position_at r).side ≡ Written
    → row_payment a path r ≤ unit_margin (series_of_row a r) (a.position_at r)

-- On every choice of paths the written row of two rows that pair pays at most their spread and what the held row pays.
abbrev pub PairsCovered : Account → Type 0
PairsCovered a =
    (path : ℕ → List ℕ) → OnePathEach a path
    → (w h : ℕ) → w < a.positions → h < a.positions → may_of a w h ≡ true
    → (u : ℕ) → unit_spread (series_of_row a w) (a.position_at h) (a.position_at w) ≡ Some u
    → row_payment a path w ≤ u + row_payment a path h

-- What one contract of a row pays out.
abbrev pays_each : Side → ℕ → ℕ → ℕ
pays_each Held pays m = 0
pays_each Written pays m = pays * m

-- A written row pays out all its contracts, n, and a held one nothing.
pays_each_lem : (x : Side) (pays m q n : ℕ) → (x ≡ Written → n ≡ q) → row_pays_out x pays m q ≡ pays_each x pays m * n
pays_each_lem Held pays m q n e = omega arith
pays_each_lem Written pays m q n e = ap (λ (k : ℕ). pays * m * k) (sym (e refl))

-- A row's left line covers what is left of it.
row_covered : (x : Side) (s : Series) (p : Position) (pays q : ℕ)
    → (x ≡ Written → pays ≤ unit_margin s p) → pays_each x pays s.m * q ≤ 1_000_000 * left_amount x s p q
row_covered Held s p pays q c = omega arith
row_covered Written s p pays q c =
    omega
    (arith, (rounded_to_reais (unit_margin s p * s.m * q)).not_below, mul-le-mul_right q (mul-le-mul_right s.m (c refl)))

-- A pair's line, with what its held row brings in, covers what its written row pays out.
pair_covered : (x y : Side) (spread : Option ℕ) (u paysw paysh mw mh q : ℕ)
    → x ≡ Written → y ≡ Held → spread ≡ Some u → mh ≡ mw → paysw ≤ u + paysh
    → (pays_each x paysw mw + pays_each y paysh mh) * q ≤ 1_000_000 * amount_of (spread_unit spread) mw q + paysh * mh * q
pair_covered x y spread u paysw paysh mw mh q ex ey es em l =
    rw (ex, ey, es, em) (omega (arith, (rounded_to_reais (u * mw * q)).not_below, mul-le-mul_right q (mul-le-mul_right mw l)))

module _ (a : Account) (n : ℕ) (path : ℕ → List ℕ) (each : OnePathEach a path) where
  abbrev pay_each : ℕ → ℕ
  pay_each r = pays_each (a.position_at r).side (row_payment a path r) (series_of_row a r).m

  -- What the pairs made cover.
  pairs_covered : PairsCovered a
      → sum_over (λ m. (pay_each m.written + pay_each m.held) * m.quantity) (pairs_after a n)
      ≤ 1_000_000 * sum_over (spread_amount a) (pairs_after a n) + sum_over (line_brings_in a path) (lines_after a n)
  pairs_covered c =
      omega (
        arith,
        brought a (pairs_after a n) (left_with_blocked a n) a.positions path,
        sum_over-most pays covers (pairs_after a n) (each_map pair (pairs_after a n) (made_sound (book_of a) (available a) n)),
        sum_over-add (λ m. 1_000_000 * spread_amount a m) brings (pairs_after a n),
        sum_over-scale 1_000_000 (spread_amount a) (pairs_after a n),
      )
    where
      pays : Made → ℕ
      pays m = (pay_each m.written + pay_each m.held) * m.quantity

      brings : Made → ℕ
      brings m = row_payment a path m.held * (series_of_row a m.held).m * m.quantity

      covers : Made → ℕ
      covers m = 1_000_000 * spread_amount a m + brings m

      pair : (m : Made) → Sound (book_of a) m → pays m ≤ covers m
      pair m s =
          let p = may_pairable a m.written m.held s.may_pair_lem in
          pair_covered (a.position_at m.written).side (a.position_at m.held).side
          (unit_spread (series_of_row a m.written) (a.position_at m.held) (a.position_at m.written)) p.spread
          (row_payment a path m.written) (row_payment a path m.held) (series_of_row a m.written).m
          (series_of_row a m.held).m m.quantity p.is_written_lem p.is_held_lem p.spread_is
          (ap (λ i. (a.series_at i).m) (sym p.one_series))
          (c path each m.written m.held s.written_below s.held_below s.may_pair_lem p.spread p.spread_is)

  -- What the left lines cover.
  rows_covered : RowsCovered a
      → sum_to (λ r. pay_each r * contracts_after a n r) a.positions
      ≤ 1_000_000 * sum_to (λ r. left_amount_at a r (contracts_after a n r)) a.positions
  rows_covered c =
      omega (
        arith,
        sum_to_scale amount 1_000_000 a.positions,
        sum_to_most (λ r. pay_each r * contracts_after a n r) (λ r. 1_000_000 * amount r) a.positions
            (λ r l. row_covered (a.position_at r).side (series_of_row a r) (a.position_at r) (row_payment a path r) (contracts_after a n r) (c path each r l)),
      )
    where
      amount : ℕ → ℕ
      amount r = left_amount_at a r (contracts_after a n r)

  pub covered_after : BlockedFits a → RowsCovered a → PairsCovered a
      → written_pay_out a path ≤ total_after a n * 1_000_000 + sum_over (line_brings_in a path) (lines_after a n)
  covered_after fits rows pairs =
      omega
      (arith, pays_out, weighed (book_of a) (apart a) (available a) pay_each n, amounts_after a fits n, rows_covered rows, pairs_covered pairs)
    where
      pays_out : written_pay_out a path ≡ sum_to (λ r. pay_each r * available a r) a.positions
      pays_out = sum_to_same _ _ a.positions (λ r l. pays_each_lem (a.position_at r).side _ _ _ _ (all_available a fits r l))

pub cover : (a : Account) → BlockedFits a → RowsCovered a → PairsCovered a → Cover a
cover a fits rows pairs path each = rw (total_is a, lines_are a) (covered_after a a.positions path each fits rows pairs)
