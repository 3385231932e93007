-- The checks one after the other: what a `refuse` gives, by how its test came out, and what it tells that none fails.
-- Assumes nothing.
use Prim.Native.Nat.{ℕ, ◌≤◌}
use mathlib.Core.Bool.{Bool, true, false, not, ◌||◌, true≢false}
use mathlib.Core.List.{List, [], ◌∷◌}
use mathlib.Core.Path.{◌≡◌, refl, sym, ◌∙◌, ap}
use borrow.Author.Tests.{eq-eqb, eqb-true, le-ltb, ltb-false, not-false}
use lib.Dec.{eqb, ltb}
use Rattle.rules.proofs.Tests.{both_fail, neither}
use Rattle.rules.specs.Refusals.{Check, Fault, clean, first_fault, nonzero, outside, refuse}
use Rattle.rules.specs.declared.Refusal.{Refusal}
use Rattle.std.specs.Prelude.{Err}

-- For code: r is the flag that it computed for the test t.
pub stops : (r t : Bool) (w : Refusal) (f : Fault) → r ≡ t → r ≡ true → Err w ≡ refuse t w f
unfolding refuse
stops r true w f e h = refl
stops r false w f e h = absurd (true≢false (sym h ∙ e))

pub passes : (r t : Bool) (w : Refusal) (f x : Fault) → r ≡ t → r ≡ false → x ≡ f → x ≡ refuse t w f
unfolding refuse
passes r true w f x e h q = absurd (true≢false (sym e ∙ h))
passes r false w f x e h q = q

-- No test of the checks holds.
abbrev pub AllPass : List Check → Type 0
AllPass [] = Unit {0}
AllPass ((test, w) ∷ later) = (test ≡ false) × AllPass later

-- There is no fault exactly where no test holds.
pub all_pass : (l : List Check) → first_fault l ≡ clean → AllPass l
unfolding refuse
all_pass [] e = tt
all_pass ((true, w) ∷ later) e = let z : ◌≡◌ {A = Bool} true false = cc in absurd (true≢false z)
all_pass ((false, w) ∷ later) e = (refl, all_pass later e)

pub all_clean : (l : List Check) → AllPass l → first_fault l ≡ clean
unfolding refuse
all_clean [] h = refl
all_clean ((true, w) ∷ later) h = absurd (true≢false h.0)
all_clean ((false, w) ∷ later) h = all_clean later h.1

-- Facts from tests that fail.
pub inside : (least most x : ℕ) → outside least most x ≡ false → (least ≤ x) × (x ≤ most)
inside least most x e =
    let h = neither (ltb x least) (ltb most x) e in
    (ltb-false x least h.0, ltb-false most x h.1)

pub is_zero : (x : ℕ) → nonzero x ≡ false → x ≡ 0
is_zero x e = eqb-true x 0 (not-false (eqb x 0) e)

-- Of three and of five tests, none holds.
pub none_of_three : (a b c : Bool) → (a || b || c) ≡ false → (a ≡ false) × (b ≡ false) × (c ≡ false)
none_of_three true b c e = absurd (true≢false e)
none_of_three false b c e = let h = neither b c e in (refl, h.0, h.1)

pub none_of_five : (a b c d f : Bool) → (a || b || c || d || f) ≡ false → (a ≡ false) × (b ≡ false) × (c ≡ false) × (d ≡ false) × (f ≡ false)
none_of_five true b c d f e = absurd (true≢false e)
none_of_five false true c d f e = absurd (true≢false e)
none_of_five false false c d f e = let h = none_of_three c d f e in (refl, refl, h.0, h.1, h.2)

pub three_fail : (a b c : Bool) → a ≡ false → b ≡ false → c ≡ false → (a || b || c) ≡ false
three_fail true b c x y z = absurd (true≢false x)
three_fail false b c x y z = both_fail b c y z

pub five_fail : (a b c d f : Bool) → a ≡ false → b ≡ false → c ≡ false → d ≡ false → f ≡ false → (a || b || c || d || f) ≡ false
five_fail true b c d f v w x y z = absurd (true≢false v)
five_fail false true c d f v w x y z = absurd (true≢false w)
five_fail false false c d f v w x y z = three_fail c d f x y z

pub in_range : (least most x : ℕ) → least ≤ x → x ≤ most → outside least most x ≡ false
in_range least most x h k = both_fail (ltb x least) (ltb most x) (le-ltb x least h) (le-ltb most x k)

pub zero_is : (x : ℕ) → x ≡ 0 → nonzero x ≡ false
zero_is x e = ap not (eq-eqb x 0 e)
