-- The operations' array of numbers, `[0; size]`, as a list. `zeros` is kept shut, so that no check computes through its
-- elements.
-- Assumes nothing.
use Prim.Native.Nat.{ℕ, zero, suc}
use mathlib.Core.List.{List}
use mathlib.Core.Path.{◌≡◌, refl}
use lib.ListN.{get_or, length, replicate, length-replicate}

pub zeros : ℕ → List ℕ
zeros size = replicate size 0

-- What `[0; size]` is.
pub zeros_are : (size : ℕ) → replicate size 0 ≡ zeros size
unfolding zeros
zeros_are size = refl

pub zeros_length : (size : ℕ) → length (zeros size) ≡ size
unfolding zeros
zeros_length size = length-replicate {A = ℕ} size 0

pub zeros_get : (size i : ℕ) → ◌≡◌ {A = ℕ} (get_or (zeros size) i 0) 0
unfolding zeros
zeros_get size i = none size i
  where
    none : (n j : ℕ) → ◌≡◌ {A = ℕ} (get_or (replicate n 0) j 0) 0
    none zero j = refl
    none (suc n) zero = refl
    none (suc n) (suc j) = none n j
