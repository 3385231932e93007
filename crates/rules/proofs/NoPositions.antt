-- Document 02, request 1, of every account without positions: "It has no lines, premium 0 and total 0", and "Such an account
-- owes nothing on every path". That it is accepted is `Reading.within_accepted`, and the four promises of demand 3 are
-- `Demand3`'s, as for every account.
-- Assumes nothing.
use Prim.Native.Nat.{ℕ, ◌+◌, ◌≤◌}
use mathlib.Core.List.{List, [], ◌∷◌, ◌++◌}
use mathlib.Core.Path.{◌≡◌, refl, sym, ap, ap₂, ◌∙◌}
use native.Mathlib.Omega.{arith}
use lib.IntN.{neg_ℤ, pos}
use lib.ListN.{length}
use Rattle.rules.proofs.Answers.{amount_no_row, lines_answered, margin_accepted, premium_accepted}
use Rattle.rules.proofs.LineLaws.{line_count_lem, lines_are, total_is}
use Rattle.rules.specs.File.{Account}
use Rattle.rules.specs.Lines.{comes_to, line_amount, lines, list_after, margin_answer, premium_answer, premiums, sum_over, sum_to, total}
use Rattle.rules.specs.OnePosition.{amount_answer, signed_answer}
use Rattle.rules.specs.Promises.{written_pay_out}
use Rattle.rules.specs.Refusals.{accepted, meaning}
use Rattle.rules.specs.declared.Line.{Line}
use Rattle.std.specs.Prelude.{Ok}

no_entries : (l : List Line) → length l ≤ 0 → l ≡ []
no_entries [] q = refl
no_entries (x ∷ l) q = absurd (omega arith)

-- A sum over no rows.
no_sum : (f : ℕ → ℕ) (n : ℕ) → n ≡ 0 → sum_to f n ≡ 0
unfolding sum_to
no_sum f n e = rw e refl

module _ (a : Account) (empty : a.positions ≡ 0) where
  -- "It has no lines": there are at most as many as positions.
  pub no_lines : lines a ≡ []
  no_lines = no_entries (lines a) (omega (arith, ap length (lines_are a), line_count_lem a a.positions, empty))

  -- "premium 0"
  pub no_premiums : premiums a ≡ 0
  unfolding premiums
  no_premiums = no_sum _ a.positions empty

  -- "and total 0"
  pub no_total : total a ≡ 0
  unfolding sum_over
  no_total =
      total_is a ∙ ap₂ (λ (l : List Line) (x : ℕ). sum_over line_amount l + x) (sym (lines_are a) ∙ no_lines) no_premiums

  -- "Such an account owes nothing on every path"
  pub owes_nothing : (path : ℕ → List ℕ) → written_pay_out a path ≡ 0
  owes_nothing path = no_sum _ a.positions empty

-- What the operations answer for its file, whatever the list and the row: no line and total 0, the list as it was, an empty
-- one too; premium 0; and 13 for any row.
module _ (b : List ℕ) (a : Account) (e : meaning b ≡ accepted a) (empty : a.positions ≡ 0) where
  pub empty_margin : (n : ℕ) → margin_answer b n ≡ comes_to 0 0
  empty_margin n =
      margin_accepted b a e n (omega (arith, empty)) ∙ ap₂ comes_to (ap length (no_lines a empty)) (no_total a empty)

  pub empty_list : (out : List Line) → list_after b out ≡ out
  empty_list out =
      let k = lines_answered b out 0 0 (empty_margin (length out)) in
      k.list_is ∙ ap (λ (l : List Line). l ++ out) (no_entries (lines k.account) (omega (arith, k.count_is)))

  pub empty_premiums : premium_answer b ≡ Ok 0
  empty_premiums = premium_accepted b a e ∙ ap Ok (no_premiums a empty)

  pub empty_rows : (row : ℕ) → signed_answer (amount_answer b row) ≡ neg_ℤ (pos 13)
  empty_rows row = amount_no_row b a e row (omega (arith, empty))
