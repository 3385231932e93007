-- The least number of which a rising test holds is known by itself and the one before it, the greatest number of which a
-- falling test holds by itself and the one after it. There is at most one least and one greatest number, and a test that can be
-- answered and holds of some number has a least one.
-- Assumes nothing.
use Prim.Native.Nat.{ℕ, zero, suc, ◌≤◌, ◌<◌}
use mathlib.Core.Logic.{◌⊎◌, inl, inr}
use mathlib.Core.Path.{◌≡◌, subst}
use native.Mathlib.Omega.{arith}
use Rattle.numbers.proofs.Order.{split}
use Rattle.roots.specs.Roots.{Greatest, Least}

module _ (P : ℕ → Type 0) where
  pub least_one : (x y : ℕ) → Least P x → Least P y → x ≡ y
  least_one x y a b = omega (arith, a.least y b.holds, b.least x a.holds)

  pub greatest_one : (x y : ℕ) → Greatest P x → Greatest P y → x ≡ y
  greatest_one x y a b = omega (arith, a.greatest y b.holds, b.greatest x a.holds)

  -- Where P holds of a number, it holds of every greater one; it does not hold of p.
  pub above : ((x y : ℕ) → x ≤ y → P x → P y) → (p : ℕ) → (P p → ⊥) → (x : ℕ) → P x → p < x
  above rises p fails x h = go (split p x)
    where
      go : (p < x) ⊎ (x ≤ p) → p < x
      go (inl l) = l
      go (inr l) = absurd (fails (rises x p l h))

  pub least_by : ((x y : ℕ) → x ≤ y → P x → P y) → (p : ℕ) → (P p → ⊥) → P (suc p) → Least P (suc p)
  least_by rises p fails h = record { holds = h; least = above rises p fails }

  -- Where P holds of a number, it holds of every smaller one.
  pub greatest_by : ((x y : ℕ) → x ≤ y → P y → P x) → (p : ℕ) → P p → (P (suc p) → ⊥) → Greatest P p
  greatest_by falls p h fails = record { holds = h; greatest = λ x k. go x k (split p x) }
    where
      go : (x : ℕ) → P x → (p < x) ⊎ (x ≤ p) → x ≤ p
      go x k (inl l) = absurd (fails (falls (suc p) x l k))
      go x k (inr l) = l

-- Where a test can be answered for every number and holds of one, it has a least number: counted up from 0.
module _ (P : ℕ → Type 0) (answer : (x : ℕ) → P x ⊎ (P x → ⊥)) where
  counted : (k : ℕ) → ((y : ℕ) → P y → k ≤ y) ⊎ ((x : ℕ) × Least P x)
  counted zero = inl (λ y h. omega arith)
  counted (suc k) = go (counted k)
    where
      next : ((y : ℕ) → P y → k ≤ y) → P k ⊎ (P k → ⊥) → ((y : ℕ) → P y → suc k ≤ y) ⊎ ((x : ℕ) × Least P x)
      next below (inl h) = inr (k, record { holds = h; least = below })
      next below (inr fails) = inl (λ y h. past y h (split k y))
        where
          past : (y : ℕ) → P y → (k < y) ⊎ (y ≤ k) → suc k ≤ y
          past y h (inl l) = l
          past y h (inr l) =
              let same : y ≡ k = omega (arith, below y h) in
              absurd (fails (subst P same h))

      go : ((y : ℕ) → P y → k ≤ y) ⊎ ((x : ℕ) × Least P x) → ((y : ℕ) → P y → suc k ≤ y) ⊎ ((x : ℕ) × Least P x)
      go (inl below) = next below (answer k)
      go (inr found) = inr found

  pub least_some : (k : ℕ) → P k → (x : ℕ) × Least P x
  least_some k h = go (counted (suc k))
    where
      go : ((y : ℕ) → P y → suc k ≤ y) ⊎ ((x : ℕ) × Least P x) → (x : ℕ) × Least P x
      go (inl below) = absurd (omega (arith, below k h))
      go (inr found) = found
