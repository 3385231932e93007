-- The digits that the library writes are document 01's decimal number.
-- Assumes nothing.
use Prim.Native.Nat.{ℕ, zero, suc, ◌+◌, ◌*◌, ◌-◌, ◌/◌, ◌%◌, ◌^◌, ◌≤◌, ◌<◌}
use mathlib.Core.Bool.{Bool, true, false}
use mathlib.Core.List.{List, [], ◌∷◌, ◌++◌}
use mathlib.Core.Path.{◌≡◌, refl, sym, ap, ap₂, subst, ◌∙◌}
use native.Mathlib.Nat.{one-le-pow, pow-le-pow_right, pow-suc}
use native.Mathlib.Omega.{arith}
use lib.Dec.{leb}
use lib.ListN.{length}
use borrow.Author.Tests.{le-ltb, leb-false, leb-true, lt-ltb}
use Rattle.io.specs.Digits.{IsDigitCount, last_digits, hex_digit_ascii}
use Rattle.rules.specs.Output.{decimal_in, most_digits, number_text}
use Rattle.statement.proofs.PutLaws.{put_then}
use Rattle.statement.specs.Puts.{Put}
use Rattle.statement.specs.Sizes.{most_number_text}

glyph_is : (d : ℕ) → d < 10 → hex_digit_ascii d ≡ 48 + d
glyph_is d l = rw (lt-ltb d 10 l)

one_less : (k : ℕ) → suc k - 1 ≡ k
one_less k = omega arith

pub decimal_is : (k places n : ℕ) → k ≤ places → IsDigitCount 10 1 n k → last_digits 10 k n ≡ decimal_in places n
unfolding decimal_in
decimal_is zero places n l f = absurd (omega (arith, f.0))
decimal_is (suc zero) zero n l f = absurd (omega (arith, l))
decimal_is (suc zero) (suc places) n l f =
    let less : n < 10 = f.1 in
    let own : n % 10 ≡ n = omega (arith, less) in
    rw (lt-ltb n 10 less) (ap (λ (d : ℕ). hex_digit_ascii d ∷ []) own ∙ ap (λ (x : ℕ). x ∷ []) (glyph_is n less))
decimal_is (suc (suc k)) zero n l f = absurd (omega (arith, l))
decimal_is (suc (suc k)) (suc places) n l f =
    let most : n < 10 ^ suc k * 10 = omega (arith, f.1, pow-suc 10 (suc k)) in
    let least : 10 ^ suc k ≤ n = subst (λ (j : ℕ). 10 ^ j ≤ n) (one_less (suc k)) (f.2 (omega arith)) in
    let several : 10 ≤ n = omega (arith, least, pow-suc 10 k, one-le-pow k 10 (omega arith)) in
    let rest : IsDigitCount 10 1 (n / 10) (suc k) = (omega arith, omega (arith, most), λ (h : 1 < suc k). subst (λ (j : ℕ). 10 ^ j ≤ n / 10) (sym (one_less k)) (omega (arith, least, pow-suc 10 k))) in
    rw (le-ltb n 10 several)
    (ap₂ (λ (x : List ℕ) (y : ℕ). x ++ (y ∷ [])) (decimal_is (suc k) places (n / 10) (omega (arith, l)) rest) (glyph_is (n % 10) (omega arith)))

-- A number of 64 bits has at most 20 digits.
pub places_most : (n k : ℕ) → n < 18_446_744_073_709_551_616 → IsDigitCount 10 1 n k → k ≤ most_digits
places_most n k most f = go (leb k most_digits) refl
  where
    wider : most_digits ≤ k - 1 → 10 ^ most_digits ≤ 10 ^ (k - 1)
    wider l = pow-le-pow_right (omega arith) l

    go : (t : Bool) → leb k most_digits ≡ t → k ≤ most_digits
    go true e = leb-true k most_digits e
    go false e =
        let more : most_digits < k = leb-false k most_digits e in
        let least : 10 ^ (k - 1) ≤ n = f.2 (omega (arith, more)) in
        let large : 100_000_000_000_000_000_000 ≤ 10 ^ (k - 1) = wider (omega (arith, more)) in
        absurd (omega (arith, most, least, large))

-- A space and the digits put after it.
pub number_put : {a b c : List ℕ} {at start end : ℕ} (n k : ℕ) (word : List ℕ) → n < 18_446_744_073_709_551_616
    → IsDigitCount 10 1 n k → word ≡ last_digits 10 k n → k ≡ length word → Put a b at start (32 ∷ []) → Put b c start end word
    → Put a c at end (number_text n) × (end ≤ at + most_number_text)
number_put {a} {b} {c} {at} {start} {end} n k word most f e len x y =
    let few = places_most n k most f in
    let same : word ≡ decimal_in most_digits n = e ∙ decimal_is k most_digits n few f in
    (subst (λ (w : List ℕ). Put a c at end (32 ∷ w)) same (put_then (32 ∷ []) word x y), omega (arith, x.end_is, y.end_is, len, few))
