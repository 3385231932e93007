-- Document 02 [6]: the one rounding gives whole reais, and every amount of every account is so rounded or a premium.
-- Assumes nothing.
use Prim.Native.Nat.{ℕ, ◌+◌, ◌*◌, ◌/◌}
use mathlib.Core.List.{List}
use mathlib.Core.Path.{◌≡◌, refl, sym, ap, ◌∙◌}
use native.Mathlib.Omega.{arith}
use Rattle.rules.proofs.LineLaws.{each_line, lines_are, total_is}
use Rattle.rules.proofs.Sums.{each_all, sum_to_same}
use Rattle.rules.specs.File.{Account, series_of_row}
use Rattle.rules.specs.Lines.{Each, held_premium, left_amount, left_with_blocked, line_amount, lines, premium_at, premiums, sum_over, sum_to, total}
use Rattle.rules.specs.OnePosition.{amount_by_side, position_amount, rounded_up}
use Rattle.rules.specs.Pairs.{pairs_after}
use Rattle.rules.specs.Reais.{RoundedToReais, WholeReaisDemand, exact_amount, exact_by_side, exact_premium, exact_premium_at}
use Rattle.rules.specs.declared.Line.{Line}
use Rattle.rules.specs.declared.Position.{Position}
use Rattle.rules.specs.declared.Series.{Series}
use Rattle.rules.specs.declared.Side.{Side}
use Rattle.rules.specs.declared.Side.TheVariants.{Held, Written}

pub rounded_to_reais : (x : ℕ) → RoundedToReais x (rounded_up x)
rounded_to_reais x = record { whole = omega arith; not_below = omega arith; least = λ n w l. omega arith }

-- Rounded to one centavo first it is the same.
pub centavo_first : (x : ℕ) → rounded_up x ≡ ((x + 999_999) / 1_000_000 + 99) / 100 * 100
centavo_first x = omega arith

left_rounded : (side : Side) (s : Series) (p : Position) (q : ℕ) → RoundedToReais (exact_by_side side s p q) (left_amount side s p q)
left_rounded Held s p q = rounded_to_reais 0
left_rounded Written s p q = rounded_to_reais _

written_rounded : (side : Side) (s : Series) (p : Position) → side ≡ Written
    → RoundedToReais (exact_by_side side s p p.q) (amount_by_side side s p)
written_rounded Held s p e = absurd (let z : ◌≡◌ {A = ℕ} 0 1 = cc in omega arith)
written_rounded Written s p e = rounded_to_reais _

held_exact : (side : Side) (s : Series) (p : Position) → side ≡ Held → amount_by_side side s p ≡ exact_premium side s p
held_exact Held s p e = refl
held_exact Written s p e = absurd (let z : ◌≡◌ {A = ℕ} 0 1 = cc in omega arith)

premium_exact : (side : Side) (s : Series) (p : Position) → held_premium side s p ≡ exact_premium side s p
premium_exact Held s p = refl
premium_exact Written s p = refl

module _ (a : Account) where
  abbrev Rounded : Line → Type 0
  Rounded x = RoundedToReais (exact_amount a x) (line_amount x)

  lines_rounded : Each Rounded (lines a)
  lines_rounded =
      let p = a.positions in
      rw (lines_are a)
      (each_line a Rounded (pairs_after a p) (left_with_blocked a p) p (each_all (λ m. rounded_to_reais _) (pairs_after a p))
      (λ r l. left_rounded (a.position_at r).side (series_of_row a r) (a.position_at r) (left_with_blocked a p r)))

  premiums_exact : premiums a ≡ sum_to (λ r. exact_premium_at a r) a.positions
  unfolding premiums
  premiums_exact =
      sum_to_same (premium_at a) (exact_premium_at a) a.positions
      (λ r l. premium_exact (a.position_at r).side (series_of_row a r) (a.position_at r))

  total_adds : total a ≡ sum_over line_amount (lines a) + premiums a
  total_adds = total_is a ∙ ap (λ (l : List Line). sum_over line_amount l + premiums a) (sym (lines_are a))

pub whole_reais : (b : List ℕ) → WholeReaisDemand b
unfolding position_amount
whole_reais b a e =
    record {
      lines_rounded = lines_rounded a;
      written_rounded = λ r l. written_rounded (a.position_at r).side (series_of_row a r) (a.position_at r);
      premiums_exact = premiums_exact a;
      held_exact = λ r l. held_exact (a.position_at r).side (series_of_row a r) (a.position_at r);
      total_adds = total_adds a;
    }
