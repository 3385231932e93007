-- Every row of an accepted file is of a size that the sums and products of one position bear.
-- Assumes nothing.
use Prim.Native.Nat.{ℕ, ◌*◌, ◌≤◌, ◌<◌}
use mathlib.Core.List.{List}
use mathlib.Core.Path.{◌≡◌, ap, refl, subst, sym, ◌∙◌}
use native.Mathlib.Nat.{mul-le-mul}
use native.Mathlib.Omega.{arith}
use Rattle.account.proofs.KnownRows.{position_within, row_series}
use Rattle.account.specs.Known.{Known}
use Rattle.rules.proofs.Bounds as Bounds
use Rattle.rules.specs.File.{Account, account_of, series_of_row}
use Rattle.rules.specs.OnePosition.{amount_answer, amount_by_side, amount_for_row, position_amount, premium_of}
use Rattle.rules.specs.Refusals.{file_read, refused_at}
use Rattle.rules.specs.declared.Layout.{Layout}
use Rattle.rules.specs.declared.Position.{Position}
use Rattle.rules.specs.declared.Series.{Series}
use Rattle.position.specs.Fits.{RowFits}
use Rattle.std.specs.Prelude.{Result, Ok}
use borrow.Author.Tests.{le-leb, lt-leb}
use Rattle.rules.specs.declared.Refusal.TheVariants.{RowAskedFor}
use Rattle.rules.specs.declared.Refused.{Refused}

pub row_fits : (b : List ℕ) (l : Layout) → Known b l → (row : ℕ) → row < l.positions → RowFits (series_of_row (account_of b l) row) ((account_of b l).position_at row)
row_fits b l k row h =
    let s = row_series b l k row h in
    let w = position_within b l k row h in
    record {
      unit_most = omega (arith, Bounds.unit_most s w);
      m_most = s.m_most;
      q_most = w.q_most;
      premium_most = w.premium_most;
    }

pub premium_part : (s : Series) (p : Position) → RowFits s p → p.premium * s.m ≤ 10_000_000_000
premium_part s p f = mul-le-mul f.premium_most f.m_most

pub premium_most : (s : Series) (p : Position) → RowFits s p → premium_of s p ≤ 1_000_000_000_000_000
premium_most s p f = mul-le-mul (premium_part s p f) f.q_most

-- A position and its series, read from the file, are the account's own.
pub at_row : (P : Series → Position → Type 0) (a : Account) (row : ℕ) (s : Series) (p : Position) → p ≡ a.position_at row → s ≡ a.series_at p.series → P (series_of_row a row) (a.position_at row) → P s p
at_row P a row s p ep es h =
    subst (λ (x : Series). P x p) (sym (es ∙ ap (λ (q : Position). a.series_at q.series) ep))
    (subst (λ (q : Position). P (series_of_row a row) q) (sym ep) h)

pub amount_at_row : (a : Account) (row : ℕ) (s : Series) (p : Position) → p ≡ a.position_at row → s ≡ a.series_at p.series → amount_by_side p.side s p ≡ position_amount a row
unfolding position_amount
amount_at_row a row s p ep es = at_row (λ s p. amount_by_side p.side s p ≡ position_amount a row) a row s p ep es refl

-- The answer of a file by how it was read.
pub answer_read_lem : (b : List ℕ) (row : ℕ) (x : Result Layout Refused) → file_read b ≡ x → amount_answer b row ≡ amount_for_row b row x
unfolding amount_answer
answer_read_lem b row x e = ap (amount_for_row b row) e

-- Of an accepted file: 13 for a row that is not there, else the row's amount.
module _ (b : List ℕ) (row : ℕ) (l : Layout) (e : file_read b ≡ Ok l) where
  pub no_row : l.positions ≤ row → refused_at RowAskedFor 0 ≡ amount_answer b row
  no_row h = sym (rw (answer_read_lem b row (Ok l) e, le-leb l.positions row h))

  pub row_there : row < l.positions → Ok (position_amount (account_of b l) row) ≡ amount_answer b row
  row_there h = sym (rw (answer_read_lem b row (Ok l) e, lt-leb l.positions row h))
