-- The lines that numbers hold: how many there are, one more of them, and that equal numbers hold equal lines.
-- Assumes nothing.
use Prim.Native.Nat.{ℕ, zero, suc, ◌+◌, ◌*◌, ◌≤◌, ◌<◌}
use mathlib.Core.List.{List, [], ◌∷◌, ◌++◌}
use mathlib.Core.Logic.{◌⊎◌, inl, inr}
use mathlib.Core.Path.{◌≡◌, refl, ap₂, ◌∙◌}
use native.Mathlib.Nat.{eq-or-lt_of_le}
use native.Mathlib.Numerals.{add-one}
use native.Mathlib.Omega.{arith}
use lib.ListN.{get_or, length, take, length-append}
use lib.Seq.{take_all, take-append-le}
use Rattle.lines.specs.LineNumbers.{line_from, lines_from, numbers_per_line}

pub lines_count : (numbers : List ℕ) (n : ℕ) → length (lines_from numbers n) ≡ n
unfolding lines_from
lines_count numbers zero = refl
lines_count numbers (suc n) = omega (arith, length-append (lines_from numbers n) (line_from numbers n ∷ []), lines_count numbers n)

pub lines_more : (numbers : List ℕ) (n : ℕ) → lines_from numbers (n + 1) ≡ lines_from numbers n ++ (line_from numbers n ∷ [])
unfolding lines_from
lines_more numbers n = rw (add-one n)

pub lines_same : (x y : List ℕ) (n : ℕ) → ((i : ℕ) → i < numbers_per_line * n → get_or x i 0 ≡ get_or y i 0) → lines_from x n ≡ lines_from y n
unfolding lines_from
lines_same x y zero f = refl
lines_same x y (suc n) f =
    ap₂ (λ a b. a ++ (b ∷ [])) (lines_same x y n (λ i l. f i (omega arith)))
    (rw (f (numbers_per_line * n) (omega arith), f (numbers_per_line * n + 1) (omega arith), f (numbers_per_line * n + 2) (omega arith)))

-- The first k of n lines are the numbers' first k.
pub take-lines : (numbers : List ℕ) (k n : ℕ) → k ≤ n → take k (lines_from numbers n) ≡ lines_from numbers k
unfolding lines_from
take-lines numbers k zero h = let e : k ≡ 0 = omega arith in rw e refl
take-lines numbers k (suc n) h = go (eq-or-lt_of_le h) (take-lines numbers k n)
  where
    go : (k ≡ suc n) ⊎ (k < suc n) → (k ≤ n → take k (lines_from numbers n) ≡ lines_from numbers k)
        → take k (lines_from numbers n ++ (line_from numbers n ∷ [])) ≡ lines_from numbers k
    go (inl e) again = rw e (take_all (suc n) _ (omega (arith, lines_count numbers (suc n))))
    go (inr l) again =
        take-append-le k (lines_from numbers n) (line_from numbers n ∷ []) (omega (arith, lines_count numbers n)) ∙ again (omega arith)
