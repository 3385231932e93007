-- Document 02 [6]: a pair can raise the total, since each line is rounded by itself (`ReaisTables.PairRaises`); by how
-- much at most.
-- Assumes nothing.
use Prim.Native.Nat.{ℕ, zero, suc, ◌+◌, ◌*◌, ◌-◌, ◌≤◌, ◌<◌, min}
use mathlib.Core.Bool.{Bool, true, false, cond}
use mathlib.Core.List.{List, ◌++◌}
use mathlib.Core.Logic.{◌≢◌}
use mathlib.Core.Path.{◌≡◌, refl, ap, subst, ◌∙◌}
use native.Mathlib.Nat.{add-sub_of_le, mul-le-mul_right}
use native.Mathlib.Omega.{arith}
use lib.Dec.{eqb}
use lib.ListN.{length, length-append}
use borrow.Author.Tests.{eq-eqb, eqb-true, ne_eqb}
use Rattle.rules.proofs.BlockedRows.{BlockedFits, amounts_after, blocked_fits}
use Rattle.rules.proofs.MayPair.{may_pairable}
use Rattle.rules.proofs.Rounds.{left_more, made_more}
use Rattle.rules.proofs.Search.{choice_allowed}
use Rattle.rules.proofs.Sums.{sum_over-append, sum_to_one}
use Rattle.rules.specs.File.{Account, series_of_row}
use Rattle.rules.specs.Lines.{left_amount, left_amount_at, spread_amount, spread_unit, sum_over, sum_to, total_after}
use Rattle.rules.specs.OnePosition.{amount_of, unit_margin}
use Rattle.rules.specs.Pairs.{available, book_of, choice, contracts_after, left_after, made_after, made_by, pairs_after, taken}
use Rattle.rules.specs.Reais.{RaisedDemand}
use Rattle.rules.specs.Spreads.{unit_spread}
use Rattle.rules.specs.declared.Position.{Position}
use Rattle.rules.specs.declared.Series.{Series}
use Rattle.rules.specs.declared.Side.{Side}
use Rattle.rules.specs.declared.Side.TheVariants.{Held, Written}
use Rattle.std.specs.Prelude.{Option, Some, None}

-- k contracts at the spread's unit and d at the written one, which is not below it, rounded apart, against all of them
-- at the written one, rounded together.
apart_together : (spread u m k d : ℕ) → spread ≤ u
    → amount_of spread m k + amount_of u m d ≤ amount_of u m (k + d) + 100 * min 1 d
apart_together spread u m k zero l = omega (arith, mul-le-mul_right k (mul-le-mul_right m l))
apart_together spread u m k (suc d) l =
    let whole : u * m * (k + suc d) ≡ u * m * k + u * m * suc d = omega arith in
    omega (arith, whole, mul-le-mul_right k (mul-le-mul_right m l))

-- The same of a pair's two lines, of l contracts of the written row.
pair_raises : (x : Side) (s : Series) (p : Position) (spread : Option ℕ) (u l k : ℕ)
    → x ≡ Written → spread ≡ Some u → u < unit_margin s p → k ≤ l
    → amount_of (spread_unit spread) s.m k + left_amount x s p (l - k) ≤ left_amount x s p l + 100 * min 1 (l - k)
pair_raises x s p spread u l k ex es less fits =
    rw (ex, es)
    (subst (λ (y : ℕ). amount_of u s.m k + amount_of (unit_margin s p) s.m (l - k) ≤ amount_of (unit_margin s p) s.m y + 100 * min 1 (l - k)) (add-sub_of_le fits)
    (apart_together u (unit_margin s p) s.m k (l - k) (omega arith)))

module _ (a : Account) where
  -- The amounts of all left lines.
  abbrev left_sum : (ℕ → ℕ) → ℕ
  left_sum left = sum_to (λ r. left_amount_at a r (left r)) a.positions

  -- One round.
  module _ (left : ℕ → ℕ) where
    -- A pair changes no left line's amount but that of its written row: its held row's is 0.
    others_stay : (w h r : ℕ) → (a.position_at h).side ≡ Held → r ≢ w → left_amount_at a r (taken left (Some (w, h)) r) ≡ left_amount_at a r (left r)
    others_stay w h r held other = rw (ne_eqb r w other) (go (eqb r h) refl)
      where
        none : (x : Side) (s : Series) (p : Position) (k l : ℕ) → x ≡ Held → left_amount x s p k ≡ left_amount x s p l
        none x s p k l e = rw e refl

        go : (t : Bool) → eqb r h ≡ t → left_amount_at a r (cond t (left r - min (left w) (left h)) (left r)) ≡ left_amount_at a r (left r)
        go true e =
            none (a.position_at r).side (series_of_row a r) (a.position_at r) _ _
            (ap (λ y. (a.position_at y).side) (eqb-true r h e) ∙ held)
        go false e = refl

    pair_round : (w h : ℕ) → choice (book_of a) left ≡ Some (w, h)
        → sum_over (spread_amount a) (made_by left (Some (w, h))) + left_sum (taken left (Some (w, h)))
        ≤ left_sum left + 100 * min 1 (taken left (Some (w, h)) w)
    unfolding sum_over
    pair_round w h e =
        let allowed = choice_allowed (book_of a) left e in
        let p = may_pairable a w h allowed.may_pair_lem in
        let itself : taken left (Some (w, h)) w ≡ left w - min (left w) (left h) = rw (eq-eqb w w refl) refl in
        omega (
          arith,
          itself,
          ap (left_amount_at a w) itself,
          sum_to_one (λ r. left_amount_at a r (taken left (Some (w, h)) r)) (λ r. left_amount_at a r (left r)) a.positions w allowed.written_below
              (λ r l other. others_stay w h r p.is_held_lem other),
          pair_raises (a.position_at w).side (series_of_row a w) (a.position_at w)
              (unit_spread (series_of_row a w) (a.position_at h) (a.position_at w)) p.spread (left w) (min (left w) (left h))
              p.is_written_lem p.spread_is p.spread_less (omega arith),
        )

    round_raises : (c : Option (ℕ × ℕ)) → choice (book_of a) left ≡ c
        → sum_over (spread_amount a) (made_by left c) + left_sum (taken left c) ≤ left_sum left + 100 * length (made_by left c)
    unfolding sum_over
    round_raises None e = omega arith
    round_raises (Some (w, h)) e = omega (arith, pair_round w h e)

  pub sums_raised : (n : ℕ)
      → sum_over (spread_amount a) (pairs_after a n) + left_sum (contracts_after a n)
      ≤ left_sum (available a) + 100 * length (pairs_after a n)
  unfolding sum_over made_after left_after
  sums_raised zero = omega arith
  sums_raised (suc n) =
      let left = contracts_after a n in
      let c = choice (book_of a) left in
      omega (
        arith,
        sums_raised n,
        round_raises left c refl,
        sum_over-append (spread_amount a) (pairs_after a n) (made_by left c),
        length-append (pairs_after a n) (made_by left c),
      )

  by_a_pair : BlockedFits a → (n w h : ℕ) → choice (book_of a) (contracts_after a n) ≡ Some (w, h)
      → total_after a (n + 1) ≤ total_after a n + 100 * min 1 (contracts_after a (n + 1) w)
  by_a_pair fits n w h e =
      let left = contracts_after a n in
      let more : contracts_after a (n + 1) ≡ taken left (Some (w, h)) = left_more (book_of a) n (available a) ∙ ap (taken left) e in
      let made : pairs_after a (n + 1) ≡ pairs_after a n ++ made_by left (Some (w, h)) = made_more (book_of a) n (available a) ∙ ap (λ (c : Option (ℕ × ℕ)). pairs_after a n ++ made_by left c) e in
      omega (
        arith,
        amounts_after a fits n,
        amounts_after a fits (n + 1),
        ap left_sum more,
        ap (λ (f : ℕ → ℕ). f w) more,
        ap (sum_over (spread_amount a)) made,
        sum_over-append (spread_amount a) (pairs_after a n) (made_by left (Some (w, h))),
        pair_round left w h e,
      )

  by_all_pairs : BlockedFits a → (n : ℕ) → total_after a n ≤ total_after a 0 + 100 * length (pairs_after a n)
  unfolding sum_over made_after left_after
  by_all_pairs fits n = omega (arith, sums_raised n, amounts_after a fits n, amounts_after a fits 0)

pub raised : (b : List ℕ) → RaisedDemand b
raised b a e =
    let fits = blocked_fits b a e in
    record { by_a_pair = by_a_pair a fits; by_all_pairs = by_all_pairs a fits }
