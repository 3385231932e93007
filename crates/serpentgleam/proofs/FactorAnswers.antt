-- What `serpentgleam_factors` tells a C program, for every two numbers.
-- Assumes nothing.
use Prim.Native.Nat.{ℕ, ◌≤◌, ◌<◌}
use mathlib.Core.Logic.{◌⊎◌, inl, inr}
use mathlib.Core.Path.{◌≡◌, refl, sym, ap, ap₂, subst, ◌∙◌}
use native.Mathlib.Omega.{arith}
use Rattle.factors.proofs.FactorPromises.{fa_least, fa_most, fb_most}
use Rattle.factors.proofs.OneAnswer.{answer_one, not_refused, number_most}
use Rattle.factors.specs.Factors.{Fa, FactorsAre, Fb, code_number}
use Rattle.factors.specs.declared.Code.{Code}
use Rattle.roots.specs.Roots.{most_days}
use Rattle.rules.specs.Refusals.{number}
use Rattle.rules.specs.declared.Refusal.{Refusal}
use Rattle.serpentgleam.specs.FactorNumbers.{FactorsTold, factor_numbers}
use Rattle.serpentgleam.specs.declared.FactorNumbers.{FactorNumbers}
use Rattle.std.specs.Prelude.{Result, Ok, Err}
use Rattle.rules.specs.declared.Refused.{Refused}
use Rattle.factors.specs.declared.formulas.Factors.{Factors}

-- What is told where refusal is 0: fa and fb of a code, within document 01's limits of a series row.
pub record Given (k n : ℕ) (r : FactorNumbers) : Type 0 where
  pub code : Code
  pub code_is : code_number code ≡ k
  pub days_most : n ≤ most_days
  pub row_is : r.row ≡ 0
  pub fa_is : Fa code n r.fa
  pub fb_is : Fb code n r.fb
  pub fa_from : 1_000_000 ≤ r.fa
  pub fa_to : r.fa ≤ 10_000_000
  pub fb_to : r.fb ≤ r.fa

module _ (k n : ℕ) where
  -- To a code and a number of days one answer is told.
  pub told_one : (r s : FactorNumbers) → FactorsTold k n r → FactorsTold k n s → r ≡ s
  told_one r s a b =
      a.is ∙ ap factor_numbers (answer_one k n a.answer b.answer a.is_answer b.is_answer) ∙ sym b.is

  -- Code above 3 or days above 1,800: 14, and nothing else.
  pub told_refused : (r : FactorNumbers) → FactorsTold k n r → (most_days < n) ⊎ (3 < k) → r ≡ record { refusal = 14; row = 0; fa = 0; fb = 0 }
  told_refused r h t = go h.answer h.is_answer h.is
    where
      go : (a : Result Factors Refused) → FactorsAre k n a → r ≡ factor_numbers a → r ≡ record { refusal = 14; row = 0; fa = 0; fb = 0 }
      go (Ok told) (c, i, few, _, _) e = absurd (not_refused k n c i few t)
      go (Err refusal) (_, p, q) e =
          e ∙ ap₂ (λ (v : Refusal) (i : ℕ). record { refusal = number v; row = i; fa = 0; fb = 0 }) p q

  -- All others: refusal 0, fa and fb.
  pub told_given : (r : FactorNumbers) → FactorsTold k n r → k ≤ 3 → n ≤ most_days → (r.refusal ≡ 0) × Given k n r
  told_given r h few-codes few = go h.answer h.is_answer h.is
    where
      go : (a : Result Factors Refused) → FactorsAre k n a → r ≡ factor_numbers a → (r.refusal ≡ 0) × Given k n r
      go (Ok told) (c, i, _, x, y) e =
          subst (λ (s : FactorNumbers). (s.refusal ≡ 0) × Given k n s) (sym e) (
            refl,
            record {
              code = c;
              code_is = i;
              days_most = few;
              row_is = refl;
              fa_is = x;
              fb_is = y;
              fa_from = fa_least c n told.fa few x;
              fa_to = fa_most c n told.fa few x;
              fb_to = fb_most c n told.fa few x told.fb y;
            },
          )
      go (Err refusal) (inl l, _, _) e = absurd (omega arith)
      go (Err refusal) (inr l, _, _) e = absurd (omega arith)

  -- The other way round: refusal 0 is told only with fa and fb.
  pub told_zero : (r : FactorNumbers) → FactorsTold k n r → r.refusal ≡ 0 → Given k n r
  told_zero r h z = go h.answer h.is_answer h.is
    where
      go : (a : Result Factors Refused) → FactorsAre k n a → r ≡ factor_numbers a → Given k n r
      go (Ok told) (c, i, few, x, y) e = (told_given r h (omega (arith, i, number_most c)) few).1
      go (Err refusal) (_, p, q) e =
          absurd (omega (arith, z, ap (λ (s : FactorNumbers). s.refusal) e, ap number p))
