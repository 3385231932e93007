-- A value chosen by comparing two numbers, by how the comparison came out.
-- Assumes nothing.
use Prim.Native.Nat.{ℕ, ◌≤◌, ◌<◌, max, min}
use mathlib.Core.Bool.{cond}
use mathlib.Core.Logic.{◌⊎◌, inl, inr}
use mathlib.Core.Path.{◌≡◌, ap}
use native.Mathlib.Omega.{arith}
use borrow.Author.Tests.{le-ltb, lt-ltb}
use lib.Dec.{ltb}
use Rattle.numbers.proofs.Order.{split}

pub pick_less : (a b x y r : ℕ) → a < b → r ≡ x → r ≡ cond (ltb a b) x y
pick_less a b x y r h e = rw (lt-ltb a b h) e

pub pick_more : (a b x y r : ℕ) → b ≤ a → r ≡ y → r ≡ cond (ltb a b) x y
pick_more a b x y r h e = rw (le-ltb a b h) e

-- One number in both cases of a test between two, by what it is in each.
at_both : (f g : ℕ → ℕ) (a b m x y : ℕ) → (a < b → m ≡ x) → (b ≤ a → m ≡ y) → cond (ltb a b) (f m) (g m) ≡ cond (ltb a b) (f x) (g y)
at_both f g a b m x y less more = go (split a b)
  where
    go : (a < b) ⊎ (b ≤ a) → cond (ltb a b) (f m) (g m) ≡ cond (ltb a b) (f x) (g y)
    go (inl h) = rw (lt-ltb a b h) (ap f (less h))
    go (inr h) = rw (le-ltb a b h) (ap g (more h))

pub at_smaller : (f g : ℕ → ℕ) (a b : ℕ) → cond (ltb a b) (f (min a b)) (g (min a b)) ≡ cond (ltb a b) (f a) (g b)
at_smaller f g a b = at_both f g a b (min a b) a b (λ h. omega arith) (λ h. omega arith)

pub at_larger : (f g : ℕ → ℕ) (a b : ℕ) → cond (ltb a b) (f (max a b)) (g (max a b)) ≡ cond (ltb a b) (f b) (g a)
at_larger f g a b = at_both f g a b (max a b) b a (λ h. omega arith) (λ h. omega arith)
