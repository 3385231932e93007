-- Document 02 [5], of the rows with flag 16 of every accepted file: never paired, REB paid on every path, and the least amount.
-- Assumes nothing.
use Prim.Native.Nat.{ℕ}
use mathlib.Core.Bool.{Bool, true, false, cond, ◌||◌, true≢false}
use mathlib.Core.List.{List, [], ◌∷◌}
use mathlib.Core.Path.{◌≡◌, refl, sym, ◌∙◌, ap, subst}
use native.Mathlib.Nat.{mul-le-mul_left}
use native.Mathlib.Omega.{arith}
use borrow.Author.Tests.{ne_eqb}
use lib.Dec.{eqb, ltb}
use Rattle.rules.proofs.Flag16.{payment_with}
use Rattle.rules.proofs.Least.{least_with}
use Rattle.rules.proofs.LineLaws.{lines_are, pair_quantities, same_either, sum_lines}
use Rattle.rules.proofs.MayPair.{may_pairable, no_flag_16}
use Rattle.rules.proofs.BlockedRows.{fits_of_file}
use Rattle.rules.proofs.PairPromises.{contracts}
use Rattle.rules.proofs.Reading.{accepted_within}
use Rattle.rules.proofs.RowFacts.{flag_16_keeps}
use Rattle.rules.proofs.Sums.{sum_to_none}
use Rattle.rules.proofs.Tests.{both_fail}
use Rattle.rules.proofs.Weights.{Sound, made_sound}
use Rattle.rules.specs.File.{Account, account_of, layout, position_row, series_row}
use Rattle.rules.specs.Lines.{Each, left_with_blocked, lines, sum_over}
use Rattle.rules.specs.Limits.{FileWithin}
use Rattle.rules.specs.Pairs.{Made, available, book_of, pairs_after}
use Rattle.rules.specs.Promises.{KnockedOutDemand, KnockedOutRows, pair_names, pair_quantity}
use Rattle.rules.specs.Quantities.{fine}

-- A row with flag 16 stands in no pair that is made, so that no pair line names it or has contracts of it.
module _ (a : Account) (r : ℕ) (out : (a.position_at r).flags.knockedOut ≡ true) where
  other : (x : ℕ) → (a.position_at x).flags.knockedOut ≡ false → eqb x r ≡ false
  other x flag = ne_eqb x r (λ e. true≢false (sym out ∙ ap (λ y. (a.position_at y).flags.knockedOut) (sym e) ∙ flag))

  -- n is 1 for the names and the pair's quantity for the contracts.
  not_named : (n : ℕ) (m : Made) → Sound (book_of a) m → cond (eqb m.written r || eqb m.held r) n 0 ≡ 0
  not_named n m s =
      let p = may_pairable a m.written m.held s.may_pair_lem in
      ap (λ (t : Bool). cond t n 0)
      (both_fail (eqb m.written r) (eqb m.held r)
      (other m.written (no_flag_16 (a.position_at m.written) p.written_may))
      (other m.held (no_flag_16 (a.position_at m.held) p.held_may)))

  none : (n : Made → ℕ) (l : List Made) → Each (Sound (book_of a)) l → sum_over (λ m. cond (eqb m.written r || eqb m.held r) (n m) 0) l ≡ 0
  unfolding sum_over
  none n [] each = refl
  none n (m ∷ l) each = omega (arith, not_named (n m) m each.0, none n l each.1)

  names_none : sum_over (pair_names r) (lines a) ≡ 0
  names_none =
      let p = a.positions in
      rw (lines_are a)
      (omega (arith, sum_lines a (pair_names r) (pairs_after a p) (left_with_blocked a p) p, none (λ m. 1) (pairs_after a p) (made_sound (book_of a) (available a) p), sum_to_none _ p (λ i b. same_either (ltb 0 (left_with_blocked a p i)) 0)))

  quantities_none : sum_over (pair_quantity r) (lines a) ≡ 0
  quantities_none =
      let p = a.positions in
      rw (lines_are a)
      (pair_quantities a (pairs_after a p) (left_with_blocked a p) p r ∙ none (λ m. m.quantity) (pairs_after a p) (made_sound (book_of a) (available a) p))

rows_within : (b : List ℕ) → FileWithin b → KnockedOutRows (account_of b (layout b))
unfolding layout
rows_within b h r there out =
    let row = position_row b (layout b) r in
    let within = h.position_rows_lem r there in
    let k = series_row b (layout b) row.series in
    let a : Account = account_of b (layout b) in
    let keeps = flag_16_keeps within in
    let series = h.series_rows_lem row.series within.series_below in
    record {
      never_paired = names_none a r out;
      all_left = omega (arith, contracts a (fits_of_file b h) r there, quantities_none a r out);
      pays = λ path i. payment_with (a.series_at row.series) (a.position_at r) out path ∙ ap fine (keeps out);
      least = λ w. least_with (a.series_at row.series) (a.position_at r) (mul-le-mul_left k.pv series.fb_most) keeps;
    }

pub knocked_out : (b : List ℕ) → KnockedOutDemand b
knocked_out b a e =
    let known = accepted_within b a e in
    subst KnockedOutRows (sym known.1) (rows_within b known.0)
