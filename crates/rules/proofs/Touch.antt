-- What a path tells: where a barrier was touched, and how its last price lies to every price before it.
-- Assumes nothing.
use Prim.Native.Nat.{ℕ, zero, suc, ◌*◌, ◌≤◌, ◌<◌}
use mathlib.Core.Bool.{Bool, true, false, false≢true, true≢false}
use mathlib.Core.List.{List, [], ◌∷◌}
use mathlib.Core.Path.{◌≡◌, sym, ◌∙◌}
use borrow.Author.Tests.{le-leb, leb-false, leb-true}
use native.Mathlib.Nat.{mul-le-mul_left, mul-le-mul_right}
use native.Mathlib.Omega.{arith}
use Rattle.rules.proofs.Tests.{neither, or_case}
use Rattle.rules.specs.Paths.{Every, IsPath, Prices, Step, at_or_above, at_or_below, last_or, touched}
use Rattle.rules.specs.Quantities.{fine, high, low}
use Rattle.rules.specs.declared.Series.{Series}

-- x is from lo to hi.
abbrev pub In : ℕ → ℕ → ℕ → Type 0
In lo hi x = (lo ≤ x) × (x ≤ hi)

-- What holds of every price holds of the last.
pub every_last : (P : ℕ → Type 0) (x : ℕ) (l : List ℕ) → Every P (x ∷ l) → P (last_or x l)
every_last P x [] h = h.0
every_last P x (y ∷ l) h = every_last P y l h.1

pub inside : (s : Series) (l : List ℕ) → Prices s l → Every (In (low s) (high s)) l
inside s [] i = tt
inside s (x ∷ l) i = ((i.0, i.1), inside s l i.3)

-- A relation that each price has to itself and to each later one, each price has to the last.
ends :
    (s : Series) (R : ℕ → ℕ → Type 0) → ((x : ℕ) → R x x) → ((x y : ℕ) → Step s x y → R x y)
    → (x : ℕ) (l : List ℕ) → Prices s (x ∷ l) → Every (λ y. R y (last_or x l)) (x ∷ l)
ends s R self later x [] i = (self x, tt)
ends s R self later x (y ∷ l) i =
    (later x (last_or y l) (every_last (Step s x) y l i.2), ends s R self later y l i.3)

-- A barrier that was touched was touched at a price.
hit :
    (P : ℕ → Type 0) (f : ℕ → Bool) (l : List ℕ) → Every P l → touched f l ≡ true → (x : ℕ) × P x × (f x ≡ true)
hit P f [] h e = absurd (false≢true e)
hit P f (x ∷ l) h e = or_case (f x) (touched f l) e (λ t. (x, h.0, t)) (λ t. hit P f l h.1 t)

-- One that was not touched was touched at no price.
missed : (f : ℕ → Bool) (l : List ℕ) → touched f l ≡ false → Every (λ x. f x ≡ false) l
missed f [] e = tt
missed f (x ∷ l) e =
    ((neither (f x) (touched f l) e).0, missed f l (neither (f x) (touched f l) e).1)

-- Where each price that touches f touches g, no path touches f and misses g.
touched_too :
    (f g : ℕ → Bool) → ((x : ℕ) → f x ≡ true → g x ≡ true) → (l : List ℕ)
    → touched g l ≡ false → touched f l ≡ true → ⊥
touched_too f g h l m e =
    let t = hit (λ x. g x ≡ false) f l (missed g l m) e in true≢false (sym (h t.0 t.2) ∙ t.1)

-- So it is of two up barriers or two down barriers, where the far one is further from the prices.
pub up_further :
    (near far : ℕ) → near ≤ far → (l : List ℕ)
    → touched (at_or_above near) l ≡ false → touched (at_or_above far) l ≡ true → ⊥
up_further near far o =
    touched_too (at_or_above far) (at_or_above near) (λ x e. le-leb (fine near) x (omega (arith, leb-true (fine far) x e)))

pub down_further :
    (far near : ℕ) → far ≤ near → (l : List ℕ)
    → touched (at_or_below near) l ≡ false → touched (at_or_below far) l ≡ true → ⊥
down_further far near o =
    touched_too (at_or_below far) (at_or_below near) (λ x e. le-leb x (fine near) (omega (arith, leb-true x (fine far) e)))

-- A touched barrier is within the prices' bounds.
pub up_reached_lem :
    (lo hi b : ℕ) (l : List ℕ) → Every (In lo hi) l → touched (at_or_above b) l ≡ true → fine b ≤ hi
up_reached_lem lo hi b l h e =
    let t = hit (In lo hi) (at_or_above b) l h e in omega (arith, leb-true (fine b) t.0 t.2)

pub down_reached_lem :
    (lo hi b : ℕ) (l : List ℕ) → Every (In lo hi) l → touched (at_or_below b) l ≡ true → lo ≤ fine b
down_reached_lem lo hi b l h e =
    let t = hit (In lo hi) (at_or_below b) l h e in omega (arith, leb-true t.0 (fine b) t.2)

-- A path that did not touch a barrier ends on its near side.
pub up_missed : (b x : ℕ) (l : List ℕ) → touched (at_or_above b) (x ∷ l) ≡ false → last_or x l < fine b
up_missed b x l e =
    leb-false (fine b) (last_or x l) (every_last (λ y. at_or_above b y ≡ false) x l (missed (at_or_above b) (x ∷ l) e))

pub down_missed : (b x : ℕ) (l : List ℕ) → touched (at_or_below b) (x ∷ l) ≡ false → fine b < last_or x l
down_missed b x l e =
    leb-false (last_or x l) (fine b) (every_last (λ y. at_or_below b y ≡ false) x l (missed (at_or_below b) (x ∷ l) e))

-- After a touch the factors bind the last price: from an up barrier it falls at most by fb, from a down barrier it
-- rises at most by fa.
pub up_falls :
    (s : Series) → s.fb ≤ 1_000_000 → (b x : ℕ) (l : List ℕ) → Prices s (x ∷ l)
    → touched (at_or_above b) (x ∷ l) ≡ true → b * s.fb ≤ last_or x l
up_falls s w b x l i e =
    let z = last_or x l in
    let t =
    hit (λ y. y * s.fb ≤ fine z) (at_or_above b) (x ∷ l)
    (ends s (λ y z. y * s.fb ≤ fine z) (λ y. mul-le-mul_left y w) (λ y z st. st.0) x l i) e in
    omega (arith, t.1, mul-le-mul_right s.fb (leb-true (fine b) t.0 t.2))

pub down_rises :
    (s : Series) → 1_000_000 ≤ s.fa → (b x : ℕ) (l : List ℕ) → Prices s (x ∷ l)
    → touched (at_or_below b) (x ∷ l) ≡ true → last_or x l ≤ b * s.fa
down_rises s w b x l i e =
    let z = last_or x l in
    let t =
    hit (λ y. fine z ≤ y * s.fa) (at_or_below b) (x ∷ l)
    (ends s (λ y z. fine z ≤ y * s.fa) (λ y. mul-le-mul_left y w) (λ y z st. st.1) x l i) e in
    omega (arith, t.1, mul-le-mul_right s.fa (leb-true t.0 (fine b) t.2))

-- "A path is a non-empty list of prices", of any length: today's price n + 1 times is one.
abbrev copies : ℕ → ℕ → List ℕ
copies zero x = []
copies (suc n) x = x ∷ copies n x

every_copy : (P : ℕ → Type 0) (n x : ℕ) → P x → Every P (copies n x)
every_copy P zero x h = tt
every_copy P (suc n) x h = (h, every_copy P n x h)

pub steady : (s : Series) → s.fb ≤ 1_000_000 → 1_000_000 ≤ s.fa → (n : ℕ) → IsPath s (copies (suc n) (fine s.pv))
steady s falls rises n = go (suc n)
  where
    go : (m : ℕ) → Prices s (copies m (fine s.pv))
    go zero = tt
    go (suc m) =
        let low : s.pv * s.fb ≤ s.pv * 1_000_000 = mul-le-mul_left s.pv falls in
        let high : s.pv * 1_000_000 ≤ s.pv * s.fa = mul-le-mul_left s.pv rises in
        let step : Step s (fine s.pv) (fine s.pv) = (mul-le-mul_left (fine s.pv) falls, mul-le-mul_left (fine s.pv) rises) in
        (low, high, every_copy (Step s (fine s.pv)) m (fine s.pv) step, go m)
