-- Laws of the sums of specs/Lines: over 0 to n - 1 and over a list.
-- Assumes nothing.
use Prim.Native.Nat.{ℕ, zero, suc, ◌+◌, ◌*◌, ◌≤◌, ◌<◌}
use mathlib.Core.List.{List, [], ◌∷◌, ◌++◌}
use mathlib.Core.Logic.{◌⊎◌, inl, inr, ◌≢◌}
use mathlib.Core.Path.{◌≡◌, refl, sym, ap, ◌∙◌}
use native.Mathlib.Nat.{eq-or-lt_of_le, le_of_suc-le-suc}
use native.Mathlib.Numerals.{add-one}
use native.Mathlib.Omega.{arith}
use Rattle.rules.specs.Lines.{Each, sum_over, sum_to}

module _ {A : Type 0} where
  pub each_append : (P : A → Type 0) (l m : List A) → Each P l → Each P m → Each P (l ++ m)
  each_append P [] m p q = q
  each_append P (x ∷ l) m p q = (p.0, each_append P l m p.1 q)

  pub each_all : {P : A → Type 0} → ((x : A) → P x) → (l : List A) → Each P l
  each_all f [] = tt
  each_all f (x ∷ l) = (f x, each_all f l)

  pub each_map : {P Q : A → Type 0} → ((x : A) → P x → Q x) → (l : List A) → Each P l → Each Q l
  each_map f [] p = tt
  each_map f (x ∷ l) p = (f x p.0, each_map f l p.1)

  pub each_both : {P Q R : A → Type 0} → ((x : A) → P x → Q x → R x) → (l : List A) → Each P l → Each Q l → Each R l
  each_both f [] p q = tt
  each_both f (x ∷ l) p q = (f x p.0 q.0, each_both f l p.1 q.1)

  pub sum_over-append : (f : A → ℕ) (l m : List A) → sum_over f (l ++ m) ≡ sum_over f l + sum_over f m
  unfolding sum_over
  sum_over-append f [] m = omega arith
  sum_over-append f (x ∷ l) m = omega (arith, sum_over-append f l m)

  pub sum_over-most : (f g : A → ℕ) (l : List A) → Each (λ x. f x ≤ g x) l → sum_over f l ≤ sum_over g l
  unfolding sum_over
  sum_over-most f g [] p = omega arith
  sum_over-most f g (x ∷ l) p = omega (arith, sum_over-most f g l p.1)

  pub sum_over-same : (f g : A → ℕ) (l : List A) → Each (λ x. f x ≡ g x) l → sum_over f l ≡ sum_over g l
  unfolding sum_over
  sum_over-same f g [] p = refl
  sum_over-same f g (x ∷ l) p = omega (arith, sum_over-same f g l p.1)

  pub sum_over-none : (l : List A) → sum_over (λ x. 0) l ≡ 0
  unfolding sum_over
  sum_over-none [] = refl
  sum_over-none (x ∷ l) = omega (arith, sum_over-none l)

  pub sum_over-add : (f g : A → ℕ) (l : List A) → sum_over (λ x. f x + g x) l ≡ sum_over f l + sum_over g l
  unfolding sum_over
  sum_over-add f g [] = refl
  sum_over-add f g (x ∷ l) = omega (arith, sum_over-add f g l)

  pub sum_over-scale : (c : ℕ) (f : A → ℕ) (l : List A) → sum_over (λ x. c * f x) l ≡ c * sum_over f l
  unfolding sum_over
  sum_over-scale c f [] = omega arith
  sum_over-scale c f (x ∷ l) = omega (arith, sum_over-scale c f l)

module _ (f g : ℕ → ℕ) where
  pub sum_to_same : (n : ℕ) → ((r : ℕ) → r < n → f r ≡ g r) → sum_to f n ≡ sum_to g n
  unfolding sum_to
  sum_to_same zero e = refl
  sum_to_same (suc n) e = omega (arith, sum_to_same n (λ r l. e r (omega arith)), e n (omega arith))

  pub sum_to_most : (n : ℕ) → ((r : ℕ) → r < n → f r ≤ g r) → sum_to f n ≤ sum_to g n
  unfolding sum_to
  sum_to_most zero e = omega arith
  sum_to_most (suc n) e = omega (arith, sum_to_most n (λ r l. e r (omega arith)), e n (omega arith))

  pub sum_to_add : (n : ℕ) → sum_to (λ r. f r + g r) n ≡ sum_to f n + sum_to g n
  unfolding sum_to
  sum_to_add zero = refl
  sum_to_add (suc n) = omega (arith, sum_to_add n)

  -- Two sums that differ in the summand of row i alone.
  pub sum_to_one : (n i : ℕ) → i < n → ((r : ℕ) → r < n → r ≢ i → f r ≡ g r) → sum_to f n + g i ≡ sum_to g n + f i
  unfolding sum_to
  sum_to_one zero i l e = omega arith
  sum_to_one (suc n) i l e = go (eq-or-lt_of_le (le_of_suc-le-suc l)) (λ m. sum_to_one n i m (λ r b. e r (omega arith)))
    where
      go : (i ≡ n) ⊎ (i < n) → (i < n → sum_to f n + g i ≡ sum_to g n + f i) → sum_to f n + f n + g i ≡ sum_to g n + g n + f i
      go (inl p) again = rw p (omega (arith, sum_to_same n (λ r b. e r (omega arith) (omega arith))))
      go (inr p) again = omega (arith, again p, e n (omega arith) (omega arith))

  -- A sum with no larger summands, and with a smaller one in row i.
  pub sum_to_less : (n i : ℕ) → i < n → ((r : ℕ) → r < n → f r ≤ g r) → f i < g i → sum_to f n < sum_to g n
  unfolding sum_to
  sum_to_less zero i l e m = omega arith
  sum_to_less (suc n) i l e m = go (eq-or-lt_of_le (le_of_suc-le-suc l)) (λ b. sum_to_less n i b (λ r b. e r (omega arith)) m)
    where
      go : (i ≡ n) ⊎ (i < n) → (i < n → sum_to f n < sum_to g n) → sum_to f n + f n < sum_to g n + g n
      go (inl p) again = omega (arith, sum_to_most n (λ r b. e r (omega arith)), rw p at m)
      go (inr p) again = omega (arith, again p, e n (omega arith))

-- One more summand.
pub sum_to_more : (f : ℕ → ℕ) (n : ℕ) → sum_to f (n + 1) ≡ sum_to f n + f n
unfolding sum_to
sum_to_more f n = rw add-one

pub sum_to_none : (f : ℕ → ℕ) (n : ℕ) → ((r : ℕ) → r < n → f r ≡ 0) → sum_to f n ≡ 0
unfolding sum_to
sum_to_none f zero e = refl
sum_to_none f (suc n) e = omega (arith, sum_to_none f n (λ r l. e r (omega arith)), e n (omega arith))

pub sum_to_alike : (c n : ℕ) → sum_to (λ r. c) n ≡ c * n
unfolding sum_to
sum_to_alike c zero = omega arith
sum_to_alike c (suc n) = omega (arith, sum_to_alike c n)

module _ (f : ℕ → ℕ) where
  pub sum_to_under : (c n : ℕ) → ((r : ℕ) → r < n → f r ≤ c) → sum_to f n ≤ c * n
  unfolding sum_to
  sum_to_under c zero e = omega arith
  sum_to_under c (suc n) e = omega (arith, sum_to_under c n (λ r l. e r (omega arith)), e n (omega arith))

  pub sum_to_scale : (c n : ℕ) → sum_to (λ r. c * f r) n ≡ c * sum_to f n
  unfolding sum_to
  sum_to_scale c zero = omega arith
  sum_to_scale c (suc n) = omega (arith, sum_to_scale c n)

  -- A sum in which the summand of row i alone is not 0.
  pub sum_to_only : (n i : ℕ) → i < n → ((r : ℕ) → r < n → r ≢ i → f r ≡ 0) → sum_to f n ≡ f i
  sum_to_only n i l e = omega (arith, sum_to_one f (λ r. 0) n i l e, sum_to_none (λ r. 0) n (λ r b. refl))

  pub sum_to_least : (n i : ℕ) → i < n → f i ≤ sum_to f n
  unfolding sum_to
  sum_to_least zero i l = omega arith
  sum_to_least (suc n) i l = go (eq-or-lt_of_le (le_of_suc-le-suc l)) (sum_to_least n i)
    where
      go : (i ≡ n) ⊎ (i < n) → (i < n → f i ≤ sum_to f n) → f i ≤ sum_to f n + f n
      go (inl p) again = rw p (omega arith)
      go (inr p) again = omega (arith, again p)

  -- A sum is at least any two of its summands.
  pub sum_to_two : (n i j : ℕ) → i < n → j < n → i ≢ j → f i + f j ≤ sum_to f n
  unfolding sum_to
  sum_to_two zero i j li lj d = omega arith
  sum_to_two (suc n) i j li lj d = go (eq-or-lt_of_le (le_of_suc-le-suc li)) (eq-or-lt_of_le (le_of_suc-le-suc lj)) (λ a b. sum_to_two n i j a b d)
    where
      go : (i ≡ n) ⊎ (i < n) → (j ≡ n) ⊎ (j < n) → (i < n → j < n → f i + f j ≤ sum_to f n) → f i + f j ≤ sum_to f n + f n
      go (inl p) (inl q) again = absurd (d (p ∙ sym q))
      go (inl p) (inr q) again = rw p (omega (arith, sum_to_least n j q))
      go (inr p) (inl q) again = rw q (omega (arith, sum_to_least n i p))
      go (inr p) (inr q) again = omega (arith, again p q)

-- The order of summation.
pub sum_to_sum_over : {A : Type 0} (f : ℕ → A → ℕ) (n : ℕ) (l : List A) → sum_to (λ r. sum_over (f r) l) n ≡ sum_over (λ x. sum_to (λ r. f r x) n) l
unfolding sum_over
sum_to_sum_over f n [] = sum_to_none (λ r. 0) n (λ r b. refl)
sum_to_sum_over f n (x ∷ l) = sum_to_add (λ r. f r x) (λ r. sum_over (f r) l) n ∙ ap (λ s. sum_to (λ r. f r x) n + s) (sum_to_sum_over f n l)
