-- To every code and number of days there is one answer.
-- Assumes nothing.
use Prim.Native.Nat.{ℕ, zero, suc, ◌≤◌, ◌<◌}
use mathlib.Core.Logic.{◌⊎◌, inl, inr}
use mathlib.Core.Path.{◌≡◌, refl, sym, ap, ap₂, subst, ◌∙◌}
use native.Mathlib.Omega.{arith}
use Rattle.factors.proofs.FactorValues.{fa_of, fb_of, high_value, low_value}
use Rattle.factors.specs.Factors.{factors_told, Fa, Factor, FactorsAre, Fb, Growth, HighDaily, HighGrowth, LowDaily, LowGrowth, code_number, code_row, down, ga, gb, high_factor, low_factor, multiplied, up}
use Rattle.factors.specs.declared.Code.{Code}
use Rattle.factors.specs.declared.Code.TheVariants.{FCI, FPI, OFC, OFV}
use Rattle.numbers.proofs.Order.{split}
use Rattle.roots.proofs.Extremes.{greatest_one, least_one}
use Rattle.roots.proofs.Squares.{root_some}
use Rattle.roots.specs.Roots.{Reaches, most_days}
use Rattle.rules.specs.declared.Refusal.TheVariants.{FactorsAskedFor}
use Rattle.std.specs.Prelude.{Result, Ok, Err}
use Rattle.rules.specs.declared.Refused.{Refused}
use Rattle.rules.specs.Refusals.{refused_at}
use Rattle.factors.specs.declared.formulas.Factors.{Factors}

-- Of one daily factor there is one growth, and of one growth one factor.
growth_one : (D : ℕ → Type 0) (r n x y : ℕ) → ((d e : ℕ) → D d → D e → d ≡ e) → Growth D r n x → Growth D r n y → x ≡ y
growth_one D r n x y one h k =
    h.is ∙ ap (λ (d : ℕ). multiplied r d n) (one h.daily k.daily h.is_daily k.is_daily) ∙ sym k.is

factor_one : (G : ℕ → Type 0) (n : ℕ) (formula : ℕ → ℕ → ℕ) (a b : ℕ) → ((x y : ℕ) → G x → G y → x ≡ y)
    → Factor G n formula a → Factor G n formula b → a ≡ b
factor_one G n formula a b one h k =
    h.is
    ∙ ap₂ formula (one h.growth k.growth h.is_growth k.is_growth) (least_one (Reaches n) h.root k.root h.is_root_lem k.is_root_lem)
    ∙ sym k.is

pub fa_one : (c : Code) (n a b : ℕ) → Fa c n a → Fa c n b → a ≡ b
fa_one c n a b =
    factor_one (HighGrowth c n) n (high_factor (code_row c).f2 (code_row c).f4) a b
    (λ x y. growth_one (HighDaily c) up n x y (least_one (λ (d : ℕ). ga c ≤ multiplied down d 360)))

pub fb_one : (c : Code) (n a b : ℕ) → Fb c n a → Fb c n b → a ≡ b
fb_one c n a b =
    factor_one (LowGrowth c n) n (low_factor (code_row c).f2 (code_row c).f4) a b
    (λ x y. growth_one (LowDaily c) down n x y (greatest_one (λ (d : ℕ). multiplied up d 360 ≤ gb c)))

-- The code of a number 0 to 3; of greater numbers nothing is asked.
abbrev named : ℕ → Code
named zero = FCI
named (suc zero) = FPI
named (suc (suc zero)) = OFC
named (suc (suc (suc k))) = OFV

named_back : (c : Code) → named (code_number c) ≡ c
named_back FCI = refl
named_back FPI = refl
named_back OFC = refl
named_back OFV = refl

pub number_most : (c : Code) → code_number c ≤ 3
number_most FCI = omega arith
number_most FPI = omega arith
number_most OFC = omega arith
number_most OFV = omega arith

code_one : (k : ℕ) (c d : Code) → code_number c ≡ k → code_number d ≡ k → c ≡ d
code_one k c d a b = sym (named_back c) ∙ ap named (a ∙ sym b) ∙ named_back d

-- A number that names a code and days that are few enough are not refused.
pub not_refused : (k n : ℕ) (c : Code) → code_number c ≡ k → n ≤ most_days → ((most_days < n) ⊎ (3 < k)) → ⊥
not_refused k n c e few (inl l) = omega arith
not_refused k n c e few (inr l) = omega (arith, e, number_most c)

pub answer_one : (k n : ℕ) (a b : Result Factors Refused) → FactorsAre k n a → FactorsAre k n b → a ≡ b
answer_one k n (Ok s) (Ok t) (c, i, few, x, y) (d, j, _, u, v) =
    let same = code_one k d c j i in
    ap₂ factors_told (fa_one c n s.fa t.fa x (subst (λ (z : Code). Fa z n t.fa) same u)) (fb_one c n s.fb t.fb y (subst (λ (z : Code). Fb z n t.fb) same v))
answer_one k n (Ok s) (Err r) (c, i, few, _, _) (t, _, _) = absurd (not_refused k n c i few t)
answer_one k n (Err r) (Ok s) (t, _, _) (c, i, few, _, _) = absurd (not_refused k n c i few t)
answer_one k n (Err r) (Err q) (_, a, b) (_, e, f) = ap₂ refused_at (a ∙ sym e) (b ∙ sym f)

-- fa and fb of every code and every number of days, and so an answer to every two numbers.
pub fa_some : (c : Code) (n : ℕ) → (fa : ℕ) × Fa c n fa
fa_some c n =
    let s = root_some n in
    (high_factor (code_row c).f2 (code_row c).f4 (multiplied up (high_value c) n) s.0, fa_of c n s.0 _ s.1 refl)

pub fb_some : (c : Code) (n : ℕ) → (fb : ℕ) × Fb c n fb
fb_some c n =
    let s = root_some n in
    (low_factor (code_row c).f2 (code_row c).f4 (multiplied down (low_value c) n) s.0, fb_of c n s.0 _ s.1 refl)

named_number : (k : ℕ) → k ≤ 3 → code_number (named k) ≡ k
named_number zero l = refl
named_number (suc zero) l = refl
named_number (suc (suc zero)) l = refl
named_number (suc (suc (suc zero))) l = refl
named_number (suc (suc (suc (suc k)))) l = absurd (omega arith)

pub answer_some : (k n : ℕ) → (a : Result Factors Refused) × FactorsAre k n a
answer_some k n = days (split most_days n)
  where
    code : n ≤ most_days → (3 < k) ⊎ (k ≤ 3) → (a : Result Factors Refused) × FactorsAre k n a
    code few (inl l) = (refused_at FactorsAskedFor 0, (inr l, refl, refl))
    code few (inr l) =
        let a = fa_some (named k) n in
        let b = fb_some (named k) n in
        (factors_told a.0 b.0, (named k, named_number k l, few, a.1, b.1))

    days : (most_days < n) ⊎ (n ≤ most_days) → (a : Result Factors Refused) × FactorsAre k n a
    days (inl l) = (refused_at FactorsAskedFor 0, (inl l, refl, refl))
    days (inr few) = code few (split 3 k)
