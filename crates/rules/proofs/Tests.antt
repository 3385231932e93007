-- Tests: what holds of a choice made by a test, and of each part of a test that joins two.
-- Assumes nothing.
use Prim.Native.Nat.{ℕ, ◌≤◌, ◌<◌}
use mathlib.Core.Bool.{Bool, true, false, cond, ◌&&◌, ◌||◌, true≢false}
use mathlib.Core.Logic.{◌⊎◌, inl, inr}
use mathlib.Core.Path.{◌≡◌, refl, sym, ◌∙◌}
use borrow.Author.Tests.{eq-eqb, eqb-false, eqb-true, ltb-false, ltb-true, ne_eqb}
use lib.Dec.{eqb, ltb}

-- P holds of the value chosen if it holds of each value where that one is chosen.
pub cond_case :
    {A : Type 0} (P : A → Type 0) (t : Bool) (x y : A) → (t ≡ true → P x) → (t ≡ false → P y) → P (cond t x y)
cond_case P true x y f g = f refl
cond_case P false x y f g = g refl

-- The same where the test compares two numbers.
pub ltb_case : (P : ℕ → Type 0) (a b x y : ℕ) → (a < b → P x) → (b ≤ a → P y) → P (cond (ltb a b) x y)
ltb_case P a b x y f g =
    cond_case P (ltb a b) x y (λ e. f (ltb-true a b e)) (λ e. g (ltb-false a b e))

-- Where a or b holds, so does whatever follows from each.
pub or_case : {A : Type 0} (a b : Bool) → (a || b) ≡ true → (a ≡ true → A) → (b ≡ true → A) → A
or_case true b e f g = f refl
or_case false b e f g = g e

-- Where not even one of a and b holds, neither does.
pub neither : (a b : Bool) → (a || b) ≡ false → (a ≡ false) × (b ≡ false)
neither true b e = absurd (true≢false e)
neither false b e = (refl, e)

-- Where both hold, each does; where one of two holds, one does.
pub both : (x y : Bool) → (x && y) ≡ true → (x ≡ true) × (y ≡ true)
both true y e = (refl, e)
both false y e = let z : false ≡ true = e in (z, cc)

pub either : (x y : Bool) → (x || y) ≡ true → (x ≡ true) ⊎ (y ≡ true)
either true y e = inl refl
either false y e = inr e

-- A test that cannot be true is false.
pub refuted : (x : Bool) → (x ≡ true → ⊥) → x ≡ false
refuted true no_way = absurd (no_way refl)
refuted false no_way = refl

pub eqb_sym : (a b : ℕ) → eqb a b ≡ eqb b a
eqb_sym a b = go (eqb a b) refl
  where
    go : (x : Bool) → eqb a b ≡ x → eqb a b ≡ eqb b a
    go true e = e ∙ sym (eq-eqb b a (sym (eqb-true a b e)))
    go false e = e ∙ sym (ne_eqb b a (λ d. eqb-false a b e (sym d)))

-- Where two tests do not both hold, and where neither does.
pub not_both : (s t : Bool) → (s && t) ≡ false → s ≡ true → t ≡ false
not_both true t e h = e
not_both false t e h = absurd (true≢false (sym h))

pub both_fail : (s t : Bool) → s ≡ false → t ≡ false → (s || t) ≡ false
both_fail true t h k = absurd (true≢false h)
both_fail false t h k = k

pub one_fails : (s t : Bool) → (s ≡ true → t ≡ false) → (s && t) ≡ false
one_fails true t h = h refl
one_fails false t h = refl

pub both_hold : (s t : Bool) → s ≡ true → t ≡ true → (s && t) ≡ true
both_hold true t h k = k
both_hold false t h k = absurd (true≢false (sym h))

-- One of two numbers is below the other, or not.
pub lt_or_ge : (x y : ℕ) → (x < y) ⊎ (y ≤ x)
lt_or_ge x y = go (ltb x y) refl
  where
    go : (t : Bool) → ltb x y ≡ t → (x < y) ⊎ (y ≤ x)
    go true e = inl (ltb-true x y e)
    go false e = inr (ltb-false x y e)
