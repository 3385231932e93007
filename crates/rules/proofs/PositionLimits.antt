-- A position row without fault is one within its limits, and the other way round.
-- Assumes nothing.
use Prim.Native.Nat.{ℕ, ◌/◌, ◌%◌, ◌≤◌}
use mathlib.Core.Bool.{Bool, true, false, not, ◌&&◌, ◌||◌, or-true}
use mathlib.Core.Logic.{◌⊎◌, inl, inr}
use mathlib.Core.Path.{◌≡◌, refl, ap}
use native.Mathlib.Omega.{arith}
use borrow.Author.Tests.{eq-eqb, eqb-true, eqb-false, le-ltb, leb-false, lt-leb, ltb-false, ne_eqb, not-true}
use lib.Dec.{eqb, leb, ltb}
use Rattle.rules.specs.File.{flags_of}
use Rattle.rules.specs.Limits.{PositionWithin}
use Rattle.rules.specs.Refusals.{clean, nonzero, outside, position_row_checks, position_row_fault, wrong_flags}
use Rattle.rules.specs.declared.PositionRow.{PositionRow}
use Rattle.rules.specs.declared.SeriesRow.{SeriesRow}
use Rattle.rules.proofs.Chain.{all_clean, all_pass, five_fail, in_range, inside, is_zero, none_of_five, none_of_three, three_fail, zero_is}
use Rattle.rules.proofs.Tests.{both, both_fail, both_hold, neither, not_both, one_fails}

-- A bit that is 0 is not 1, and one that is not 1 is 0.
bit_clear : (n : ℕ) → n ≡ 0 → eqb n 1 ≡ false
bit_clear n z = ne_eqb n 1 (λ e. omega arith)

bit_zero : (n : ℕ) → not (eqb (n % 2) 1) ≡ true → n % 2 ≡ 0
bit_zero n e = let h = eqb-false (n % 2) 1 (not-true (eqb (n % 2) 1) e) in omega arith

-- The test that n is a or b, as of the kinds of the up barriers and of the down barriers.
either_true : (n a b : ℕ) → (n ≡ a) ⊎ (n ≡ b) → (eqb n a || eqb n b) ≡ true
either_true n a b (inl e) = ap (λ (t : Bool). t || eqb n b) (eq-eqb n a e)
either_true n a b (inr e) = rw (eq-eqb n b e) (or-true (eqb n a))

either_of : (n a b : ℕ) → (eqb n a || eqb n b) ≡ true → (n ≡ a) ⊎ (n ≡ b)
either_of n a b e = go (eqb n a) refl e
  where
    go : (s : Bool) → eqb n a ≡ s → (s || eqb n b) ≡ true → (n ≡ a) ⊎ (n ≡ b)
    go true q h = inl (eqb-true n a q)
    go false q h = inr (eqb-true n b h)

module _ (s : ℕ) (k : SeriesRow) (r : PositionRow) where
  pub position_within : position_row_fault s k r ≡ clean → PositionWithin s k r
  unfolding position_row_fault
  position_within e =
      let limited : Bool = (flags_of r.flags).limited in
      let knocked : Bool = (flags_of r.flags).knockedIn in
      let out : Bool = (flags_of r.flags).knockedOut in
      let call : Bool = eqb k.option 0 in
      let up : Bool = eqb r.kind 1 || eqb r.kind 3 in
      let down : Bool = eqb r.kind 2 || eqb r.kind 4 in
      let passes = all_pass (position_row_checks s k r) e in
      let terms = none_of_five (leb s r.series) (ltb 1 r.side) (ltb 4 r.kind) (wrong_flags r) (eqb r.side 1 && nonzero r.blocked) passes.0 in
      let flags = none_of_three (ltb 31 r.flags) (knocked && outside 1 2 r.kind) (out && outside 3 4 r.kind) terms.3 in
      let blocked = neither (outside 1 100_000 r.q || outside 1 10_000_000 r.pe || ltb 10_000_000 r.reb || ltb 10_000_000 r.premium || (eqb r.side 1 && nonzero r.premium)) (ltb r.q r.blocked) passes.1.0 in
      let range = none_of_five (outside 1 100_000 r.q) (outside 1 10_000_000 r.pe) (ltb 10_000_000 r.reb) (ltb 10_000_000 r.premium) (eqb r.side 1 && nonzero r.premium) blocked.0 in
      let limits = none_of_three (not limited && nonzero r.pb) (limited && call && (leb r.pb r.pe || ltb 10_000_000 r.pb)) (limited && not call && leb r.pe r.pb) passes.1.1.0 in
      let prices = neither (eqb r.kind 0 && (nonzero r.price || nonzero r.reb)) (nonzero r.kind && outside 1 10_000_000 r.price) passes.1.1.1.0 in
      let none : r.kind ≡ 0 → (nonzero r.price ≡ false) × (nonzero r.reb ≡ false) = λ z. neither (nonzero r.price) (nonzero r.reb) (not_both (eqb r.kind 0) (nonzero r.price || nonzero r.reb) prices.0 (eq-eqb r.kind 0 z)) in
      let sides : r.flags % 2 ≡ 0 → r.flags / 16 % 2 ≡ 0 → ((up && leb r.price k.pv) ≡ false) × ((down && leb k.pv r.price) ≡ false) = λ z y. neither (up && leb r.price k.pv) (down && leb k.pv r.price) (not_both (not knocked && not out) ((up && leb r.price k.pv) || (down && leb k.pv r.price)) passes.1.1.1.1.0 (both_hold (not knocked) (not out) (ap not (bit_clear (r.flags % 2) z)) (ap not (bit_clear (r.flags / 16 % 2) y)))) in
      record {
        series_below = leb-false s r.series terms.0;
        side_most = ltb-false 1 r.side terms.1;
        kind_most = ltb-false 4 r.kind terms.2;
        flags_most = ltb-false 31 r.flags flags.0;
        knocked_in_kind = λ z. inside 1 2 r.kind (not_both knocked (outside 1 2 r.kind) flags.1 (eq-eqb (r.flags % 2) 1 z));
        knocked_out_kind = λ z. inside 3 4 r.kind (not_both out (outside 3 4 r.kind) flags.2 (eq-eqb (r.flags / 16 % 2) 1 z));
        blocked_written = λ z. is_zero r.blocked (not_both (eqb r.side 1) (nonzero r.blocked) terms.4 (eq-eqb r.side 1 z));
        q_least = (inside 1 100_000 r.q range.0).0;
        q_most = (inside 1 100_000 r.q range.0).1;
        blocked_most = ltb-false r.q r.blocked blocked.1;
        pe_least = (inside 1 10_000_000 r.pe range.1).0;
        pe_most = (inside 1 10_000_000 r.pe range.1).1;
        reb_most = ltb-false 10_000_000 r.reb range.2;
        premium_most = ltb-false 10_000_000 r.premium range.3;
        premium_written = λ z. is_zero r.premium (not_both (eqb r.side 1) (nonzero r.premium) range.4 (eq-eqb r.side 1 z));
        pb_none = λ z. is_zero r.pb (not_both (not limited) (nonzero r.pb) limits.0 (ap not (bit_clear (r.flags / 2 % 2) z)));
        pb_call = λ z c.
            let h = neither (leb r.pb r.pe) (ltb 10_000_000 r.pb) (not_both (limited && call) (leb r.pb r.pe || ltb 10_000_000 r.pb) limits.1 (both_hold limited call (eq-eqb (r.flags / 2 % 2) 1 z) (eq-eqb k.option 0 c))) in
            (leb-false r.pb r.pe h.0, ltb-false 10_000_000 r.pb h.1);
        pb_put = λ z c. leb-false r.pe r.pb (not_both (limited && not call) (leb r.pe r.pb) limits.2 (both_hold limited (not call) (eq-eqb (r.flags / 2 % 2) 1 z) (ap not (ne_eqb k.option 0 (λ q. omega arith)))));
        price_none = λ z. is_zero r.price (none z).0;
        reb_none = λ z. is_zero r.reb (none z).1;
        price_some = λ z. inside 1 10_000_000 r.price (not_both (nonzero r.kind) (outside 1 10_000_000 r.price) prices.1 (ap not (ne_eqb r.kind 0 (λ q. omega arith))));
        price_above = λ z y u. leb-false r.price k.pv (not_both up (leb r.price k.pv) (sides z y).0 (either_true r.kind 1 3 u));
        price_below = λ z y u. leb-false k.pv r.price (not_both down (leb k.pv r.price) (sides z y).1 (either_true r.kind 2 4 u));
      }

  -- The way back asks that the series' type is 0 or 1, as every row's series has by then.
  pub position_clean : k.option ≤ 1 → PositionWithin s k r → position_row_fault s k r ≡ clean
  unfolding position_row_fault
  position_clean o h =
      let limited : Bool = (flags_of r.flags).limited in
      let knocked : Bool = (flags_of r.flags).knockedIn in
      let out : Bool = (flags_of r.flags).knockedOut in
      let call : Bool = eqb k.option 0 in
      let up : Bool = eqb r.kind 1 || eqb r.kind 3 in
      let down : Bool = eqb r.kind 2 || eqb r.kind 4 in
      all_clean (position_row_checks s k r) (
        (five_fail (leb s r.series) (ltb 1 r.side) (ltb 4 r.kind) (wrong_flags r) (eqb r.side 1 && nonzero r.blocked)
            (lt-leb s r.series h.series_below)
            (le-ltb 1 r.side h.side_most)
            (le-ltb 4 r.kind h.kind_most)
            (three_fail (ltb 31 r.flags) (knocked && outside 1 2 r.kind) (out && outside 3 4 r.kind) (le-ltb 31 r.flags h.flags_most)
            (one_fails knocked (outside 1 2 r.kind) (λ t. let z = h.knocked_in_kind (eqb-true (r.flags % 2) 1 t) in in_range 1 2 r.kind z.0 z.1))
            (one_fails out (outside 3 4 r.kind) (λ t. let z = h.knocked_out_kind (eqb-true (r.flags / 16 % 2) 1 t) in in_range 3 4 r.kind z.0 z.1)))
            (one_fails (eqb r.side 1) (nonzero r.blocked) (λ t. zero_is r.blocked (h.blocked_written (eqb-true r.side 1 t))))),
        (
          (both_fail (outside 1 100_000 r.q || outside 1 10_000_000 r.pe || ltb 10_000_000 r.reb || ltb 10_000_000 r.premium || (eqb r.side 1 && nonzero r.premium)) (ltb r.q r.blocked)
              (five_fail (outside 1 100_000 r.q) (outside 1 10_000_000 r.pe) (ltb 10_000_000 r.reb) (ltb 10_000_000 r.premium) (eqb r.side 1 && nonzero r.premium)
              (in_range 1 100_000 r.q h.q_least h.q_most)
              (in_range 1 10_000_000 r.pe h.pe_least h.pe_most)
              (le-ltb 10_000_000 r.reb h.reb_most)
              (le-ltb 10_000_000 r.premium h.premium_most)
              (one_fails (eqb r.side 1) (nonzero r.premium) (λ t. zero_is r.premium (h.premium_written (eqb-true r.side 1 t)))))
              (le-ltb r.q r.blocked h.blocked_most)),
          (
            (three_fail (not limited && nonzero r.pb) (limited && call && (leb r.pb r.pe || ltb 10_000_000 r.pb)) (limited && not call && leb r.pe r.pb)
                (one_fails (not limited) (nonzero r.pb) (λ t. zero_is r.pb (h.pb_none (bit_zero (r.flags / 2) t))))
                (one_fails (limited && call) (leb r.pb r.pe || ltb 10_000_000 r.pb) (λ t.
                let u = both limited call t in
                let z = h.pb_call (eqb-true (r.flags / 2 % 2) 1 u.0) (eqb-true k.option 0 u.1) in
                both_fail (leb r.pb r.pe) (ltb 10_000_000 r.pb) (lt-leb r.pb r.pe z.0) (le-ltb 10_000_000 r.pb z.1)))
                (one_fails (limited && not call) (leb r.pe r.pb) (λ t.
                let u = both limited (not call) t in
                let v = eqb-false k.option 0 (not-true call u.1) in
                lt-leb r.pe r.pb (h.pb_put (eqb-true (r.flags / 2 % 2) 1 u.0) (omega arith))))),
            (
              (both_fail (eqb r.kind 0 && (nonzero r.price || nonzero r.reb)) (nonzero r.kind && outside 1 10_000_000 r.price)
                  (one_fails (eqb r.kind 0) (nonzero r.price || nonzero r.reb) (λ t.
                  let z = eqb-true r.kind 0 t in
                  both_fail (nonzero r.price) (nonzero r.reb) (zero_is r.price (h.price_none z)) (zero_is r.reb (h.reb_none z))))
                  (one_fails (nonzero r.kind) (outside 1 10_000_000 r.price) (λ t.
                  let v = eqb-false r.kind 0 (not-true (eqb r.kind 0) t) in
                  let z = h.price_some (omega arith) in
                  in_range 1 10_000_000 r.price z.0 z.1))),
              (
                (one_fails (not knocked && not out) ((up && leb r.price k.pv) || (down && leb k.pv r.price)) (λ t.
                    let x = both (not knocked) (not out) t in
                    let z = bit_zero r.flags x.0 in
                    let y = bit_zero (r.flags / 16) x.1 in
                    both_fail (up && leb r.price k.pv) (down && leb k.pv r.price)
                    (one_fails up (leb r.price k.pv) (λ u. lt-leb r.price k.pv (h.price_above z y (either_of r.kind 1 3 u))))
                    (one_fails down (leb k.pv r.price) (λ u. lt-leb k.pv r.price (h.price_below z y (either_of r.kind 2 4 u)))))),
                tt,
              ),
            ),
          ),
        ),
      )
