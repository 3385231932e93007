-- A choice by a test that counts as 1 or 0; the larger and the smaller of two are such choices.
-- Assumes nothing.
use Prim.Native.Nat.{ℕ, ◌+◌, ◌*◌, ◌-◌, ◌≤◌, ◌<◌, max, min}
use mathlib.Core.Bool.{Bool, true, false, cond}
use mathlib.Core.Path.{◌≡◌, refl}
use native.Mathlib.Omega.{arith}
use lib.Dec.{leb}
use mir.Val.{bool_byte}
use borrow.Author.Tests.{leb-false, leb-true}

pub counted : (test : Bool) → bool_byte test ≤ 1
counted true = omega arith
counted false = omega arith

pub choice : (test : Bool) (a b : ℕ) → a * bool_byte test + b * (1 - bool_byte test) ≡ cond test a b
choice true a b = omega arith
choice false a b = omega arith

pub choice_fits : (test : Bool) (a b n : ℕ) → a < n → b < n → a * bool_byte test + b * (1 - bool_byte test) < n
choice_fits true a b n x y = omega arith
choice_fits false a b n x y = omega arith

-- One number in both cases of a test of the order, by what it is in each.
in_both : (a b x y m : ℕ) → (a ≤ b → x ≡ m) → (b < a → y ≡ m) → cond (leb a b) x y ≡ m
in_both a b x y m ordered turned = go (leb a b) refl
  where
    go : (t : Bool) → leb a b ≡ t → cond t x y ≡ m
    go true e = ordered (leb-true a b e)
    go false e = turned (leb-false a b e)

pub larger : (a b : ℕ) → cond (leb b a) a b ≡ max a b
larger a b = in_both b a a b (max a b) (λ h. omega arith) (λ h. omega arith)

pub smaller : (a b : ℕ) → cond (leb a b) a b ≡ min a b
smaller a b = in_both a b a b (min a b) (λ h. omega arith) (λ h. omega arith)
