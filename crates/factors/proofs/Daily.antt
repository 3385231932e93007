-- A daily factor is the least, or the greatest, by what 360 multiplications by it and by its neighbour come to.
-- Assumes nothing.
use Prim.Native.Nat.{ℕ, zero, suc, ◌≤◌}
use mathlib.Core.Bool.{Bool, false, ◌&&◌}
use mathlib.Core.Path.{◌≡◌, subst, sym}
use lib.Dec.{T, leb, ltb, leb→le, lit≤, ltb→lt}
use native.Mathlib.Omega.{arith}
use Rattle.factors.proofs.Multiplied.{rises}
use Rattle.factors.specs.Factors.{HighDaily, LowDaily, code_row, down, ga, gb, multiplied, up}
use Rattle.factors.specs.Numbers.{NumbersOf}
use Rattle.factors.specs.declared.Code.{Code}
use Rattle.factors.specs.declared.codes.CodeNumbers.{CodeNumbers}
use Rattle.roots.proofs.Every.{both_left, both_right}
use Rattle.roots.proofs.Extremes.{greatest_by, least_by}

-- d reaches ga, and the number before it does not.
abbrev pub is_high : Code → ℕ → Bool
is_high c zero = false
is_high c (suc p) = leb (ga c) (multiplied down (suc p) 360) && ltb (multiplied down p 360) (ga c)

-- d stays at or below gb, and the number after it does not.
abbrev pub is_low : Code → ℕ → Bool
is_low c d = leb (multiplied up d 360) (gb c) && ltb (gb c) (multiplied up (suc d) 360)

pub high_by : (c : Code) (d : ℕ) → T (is_high c d) → HighDaily c d
high_by c zero t = absurd t
high_by c (suc p) t =
    let a = leb (ga c) (multiplied down (suc p) 360) in
    let b = ltb (multiplied down p 360) (ga c) in
    least_by (λ (d : ℕ). ga c ≤ multiplied down d 360)
    (λ x y l h. omega (arith, h, rises down down x y 360 (lit≤ tt) l)) p
    (λ h. omega (arith, h, ltb→lt (multiplied down p 360) (ga c) (both_right a b t)))
    (leb→le (ga c) (multiplied down (suc p) 360) (both_left a b t))

pub low_by : (c : Code) (d : ℕ) → T (is_low c d) → LowDaily c d
low_by c d t =
    let a = leb (multiplied up d 360) (gb c) in
    let b = ltb (gb c) (multiplied up (suc d) 360) in
    greatest_by (λ (e : ℕ). multiplied up e 360 ≤ gb c)
    (λ x y l h. omega (arith, h, rises up up x y 360 (lit≤ tt) l)) d
    (leb→le (multiplied up d 360) (gb c) (both_left a b t))
    (λ h. omega (arith, h, ltb→lt (gb c) (multiplied up (suc d) 360) (both_right a b t)))

-- The numbers of a code that is known to be k, by k's row and the two tests.
pub numbers_of : (c k : Code) (r : CodeNumbers) → c ≡ k → r.f2 ≡ (code_row k).f2 → r.f4 ≡ (code_row k).f4 → T (is_high k r.high) → T (is_low k r.low) → NumbersOf c r
numbers_of c k r e a b h l =
    subst (λ (x : Code). NumbersOf x r) (sym e)
    (record { f2_is = a; f4_is = b; high_is = high_by k r.high h; low_is = low_by k r.low l })
