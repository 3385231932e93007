-- Document 02 [9]: the limits of the number blocked, of every row of an accepted file, and what they leave of the amounts of
-- left lines.
-- Assumes nothing.
use Prim.Native.Nat.{ℕ, ◌+◌, ◌≤◌, ◌<◌}
use mathlib.Core.Bool.{Bool, true, false, cond}
use mathlib.Core.List.{List}
use mathlib.Core.Path.{◌≡◌, refl, sym, ap, subst, ◌∙◌}
use native.Mathlib.Omega.{arith}
use lib.Dec.{eqb}
use borrow.Author.Tests.{eqb-false}
use Rattle.rules.proofs.LineLaws.{amounts}
use Rattle.rules.proofs.Reading.{accepted_within}
use Rattle.rules.proofs.Rounds.{left_falls}
use Rattle.rules.proofs.Sums.{sum_to_same}
use Rattle.rules.specs.File.{Account, account_of, layout, position_row, series_of_row, side_of}
use Rattle.rules.specs.Limits.{FileWithin}
use Rattle.rules.specs.Lines.{left_amount, left_amount_at, left_with_blocked, premiums, spread_amount, sum_over, sum_to, total_after}
use Rattle.rules.specs.Pairs.{available, book_of, contracts_after, pairs_after}
use Rattle.rules.specs.Refusals.{accepted, meaning}
use Rattle.rules.specs.declared.Position.{Position}
use Rattle.rules.specs.declared.Series.{Series}
use Rattle.rules.specs.declared.Side.{Side}
use Rattle.rules.specs.declared.Side.TheVariants.{Held, Written}

-- "the number blocked, at most Q; on a written row they stay zero"
pub record BlockedFits (a : Account) : Type 0 where
  pub most : (r : ℕ) → r < a.positions → (a.position_at r).blocked ≤ (a.position_at r).q
  pub written : (r : ℕ) → r < a.positions → (a.position_at r).side ≡ Written → (a.position_at r).blocked ≡ 0

-- A row whose side is written has the number 1 there.
side_one : (n : ℕ) → n ≤ 1 → side_of n ≡ Written → n ≡ 1
side_one n most e = go (eqb n 0) refl e
  where
    go : (t : Bool) → eqb n 0 ≡ t → cond t Held Written ≡ Written → n ≡ 1
    go true q f = absurd (let z : ◌≡◌ {A = ℕ} 0 1 = cc in omega arith)
    go false q f = omega (arith, eqb-false n 0 q)

pub fits_of_file : (b : List ℕ) → FileWithin b → BlockedFits (account_of b (layout b))
unfolding layout
fits_of_file b h =
    record {
      most = λ r l. (h.position_rows_lem r l).blocked_most;
      written = λ r l e.
          let w = h.position_rows_lem r l in
          w.blocked_written (side_one (position_row b (layout b) r).side w.side_most e);
    }

pub blocked_fits : (b : List ℕ) (a : Account) → meaning b ≡ accepted a → BlockedFits a
blocked_fits b a e =
    let known = accepted_within b a e in
    subst BlockedFits (sym known.1) (fits_of_file b known.0)

-- Blocked contracts add nothing to the amount of a left line: a held row's is 0, and a written row has none.
left_alike : (x : Side) (s : Series) (p : Position) (k n : ℕ) → (x ≡ Written → n ≡ 0) → left_amount x s p (k + n) ≡ left_amount x s p k
left_alike Held s p k n none = refl
left_alike Written s p k n none = ap (left_amount Written s p) (omega (arith, none refl))

module _ (a : Account) (fits : BlockedFits a) where
  -- All contracts of a written row may be paired.
  pub all_available : (r : ℕ) → r < a.positions → (a.position_at r).side ≡ Written → available a r ≡ (a.position_at r).q
  all_available r l e = omega (arith, fits.written r l e)

  -- No left line has more contracts than its row.
  pub left_most : (n r : ℕ) → r < a.positions → left_with_blocked a n r ≤ (a.position_at r).q
  left_most n r l = omega (arith, left_falls (book_of a) (available a) n r, fits.most r l)

  -- The amounts after n rounds, by the contracts that pairing may still use.
  pub amounts_after : (n : ℕ) → total_after a n
      ≡ sum_over (spread_amount a) (pairs_after a n) + sum_to (λ r. left_amount_at a r (contracts_after a n r)) a.positions + premiums a
  amounts_after n =
      ap (λ (x : ℕ). x + premiums a)
      (amounts a (pairs_after a n) (left_with_blocked a n) a.positions
      ∙ ap (λ (x : ℕ). sum_over (spread_amount a) (pairs_after a n) + x)
      (sum_to_same _ _ a.positions (λ r l. left_alike (a.position_at r).side (series_of_row a r) (a.position_at r) _ _ (fits.written r l))))
