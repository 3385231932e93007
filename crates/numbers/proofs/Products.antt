-- Products: two numbers of 32 bits make one of 64, and a product divided by a hundred million, part by part.
-- Assumes nothing.
use Prim.Native.Nat.{ℕ, ◌+◌, ◌*◌, ◌/◌, ◌%◌, ◌^◌, ◌≤◌, ◌<◌}
use mathlib.Core.Path.{◌≡◌, ap}
use native.Mathlib.Nat.{div-add-mod', mul_assoc, mul-le-mul}
use native.Mathlib.Omega.{arith}
use Rattle.rules.specs.OnePosition.{amount_of}

pub product_fits : (a b : ℕ) → a < 2 ^ 32 → b < 2 ^ 32 → a * b < 2 ^ 64
product_fits a b ha hb =
    let x : a ≤ 4_294_967_295 = omega arith in
    let y : b ≤ 4_294_967_295 = omega arith in
    let p : a * b ≤ 4_294_967_295 * 4_294_967_295 = mul-le-mul x y in
    omega arith

-- The whole hundreds of ticks of a unit u and the rest of it, each times n.
pub parts : (u n : ℕ) → u * n ≡ 100_000_000 * (u / 100_000_000 * n) + u % 100_000_000 * n
parts u n = omega (arith, ap (λ (x : ℕ). x * n) (div-add-mod' u 100_000_000))

pub split : (u m q : ℕ) → (u / 100_000_000 * (m * q) + (u % 100_000_000 * (m * q) + 99_999_999) / 100_000_000) * 100 ≡ amount_of u m q
split u m q = rw (mul_assoc u m q) (omega (arith, parts u (m * q)))

-- Each part fits.
pub whole_fits : (u n : ℕ) → u ≤ 100_000_000_000_000 → n ≤ 100_000_000 → u / 100_000_000 * n ≤ 100_000_000_000_000
whole_fits u n a b =
    let c : u / 100_000_000 ≤ 1_000_000 = omega arith in
    mul-le-mul c b

pub rest_fits : (u n : ℕ) → n ≤ 100_000_000 → u % 100_000_000 * n ≤ 10_000_000_000_000_000
rest_fits u n b =
    let c : u % 100_000_000 ≤ 100_000_000 = omega arith in
    mul-le-mul c b

pub factor_fits : (m q : ℕ) → m ≤ 1_000 → q ≤ 100_000 → m * q ≤ 100_000_000
factor_fits m q a b = mul-le-mul a b

pub amount_most : (u m q : ℕ) → u ≤ 100_000_000_000_000 → m ≤ 1_000 → q ≤ 100_000 → amount_of u m q ≤ 10_000_000_000_000_000
amount_most u m q a b c =
    let p : u * (m * q) ≤ 10_000_000_000_000_000_000_000 = mul-le-mul a (factor_fits m q b c) in
    rw (mul_assoc u m q) (omega arith)
