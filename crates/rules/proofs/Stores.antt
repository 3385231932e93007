-- Stores into a list of bytes: what was stored is read back, elsewhere nothing changes, and bytes stored where they are
-- already change nothing. Then the same of a table of stores, and of one byte in each row of any width.
-- Assumes nothing.
use Prim.Native.Nat.{ℕ, zero, suc, ◌+◌, ◌*◌, ◌-◌, ◌≤◌, ◌<◌}
use mathlib.Core.Bool.{Bool, true, false}
use mathlib.Core.List.{List, [], ◌∷◌, ◌++◌}
use mathlib.Core.Logic.{◌⊎◌, inl, inr}
use mathlib.Core.Path.{◌≡◌, refl, sym, ◌∙◌, ap}
use native.Mathlib.Nat.{eq-or-lt_of_le, le_of_suc-le-suc, not-suc-le-zero, mul-le-mul_left, mul-suc}
use native.Mathlib.Omega.{arith}
use borrow.Author.Tests.{eqb-false, eqb-true}
use lib.Dec.{eqb}
use lib.ListN.{drop, get_or, length, set, length-set}
use lib.Seq.{sets, sets-eq, length-sets, get_or-set_other, get_or-set_same, set-get_or}
use Rattle.rules.proofs.Tests.{lt_or_ge}
use Rattle.rules.specs.Writing.{stores}

-- From byte i to below byte e two files have the same bytes.
abbrev pub Agree : List ℕ → List ℕ → ℕ → ℕ → Type 0
Agree c b i e = (j : ℕ) → i ≤ j → j < e → get_or c j 0 ≡ get_or b j 0

-- Byte j is none of the bytes from i on that vs fills.
abbrev pub Off : ℕ → List ℕ → ℕ → Type 0
Off i vs j = (j < i) ⊎ (i + length vs ≤ j)

-- A byte that is not the one stored.
off_one : (i v j : ℕ) → (j ≡ i → ⊥) → Off i (v ∷ []) j
off_one i v j h = go (lt_or_ge j i)
  where
    go : (j < i) ⊎ (i ≤ j) → Off i (v ∷ []) j
    go (inl l) = inl l
    go (inr l) = inr (omega arith)

-- ---- one store of several bytes

pub sets_off : (vs b : List ℕ) (i j : ℕ) → Off i vs j → get_or (sets b i vs) j 0 ≡ get_or b j 0
sets_off [] b i j o = refl
sets_off (a ∷ vs) b i j (inl h) =
    sets_off vs (set b i a) (suc i) j (inl (omega arith)) ∙ get_or-set_other b i j a 0 (λ (e : j ≡ i). omega arith)
sets_off (a ∷ vs) b i j (inr h) =
    sets_off vs (set b i a) (suc i) j (inr (omega arith)) ∙ get_or-set_other b i j a 0 (λ (e : j ≡ i). omega arith)

pub sets_in : (vs b : List ℕ) (i k : ℕ) → k < length vs → i + length vs ≤ length b → get_or (sets b i vs) (i + k) 0 ≡ get_or vs k 0
sets_in [] b i k h fits = absurd (not-suc-le-zero h)
sets_in (a ∷ vs) b i zero h fits =
    let here : i + 0 ≡ i = omega arith in
    rw here (sets_off vs (set b i a) (suc i) i (inl (omega arith)) ∙ get_or-set_same b i a 0 (omega arith))
sets_in (a ∷ vs) b i (suc k) h fits =
    let here : i + suc k ≡ suc i + k = omega arith in
    rw here (sets_in vs (set b i a) (suc i) k (le_of_suc-le-suc h) (rw length-set (omega arith)))

pub sets_again : (vs b : List ℕ) (i : ℕ) → ((k : ℕ) → k < length vs → get_or b (i + k) 0 ≡ get_or vs k 0) → sets b i vs ≡ b
sets_again [] b i h = refl
sets_again (a ∷ vs) b i h =
    let here : i + 0 ≡ i = omega arith in
    let first : get_or b i 0 ≡ a = rw here at (h 0 (omega arith)) in
    let same : set b i a ≡ b = rw (← first) (set-get_or b i 0) in
    rw same (sets_again vs b (suc i) (λ k l. let next : i + suc k ≡ suc i + k = omega arith in rw next at (h (suc k) (omega arith))))

-- Bytes stored in two parts, the second behind the first, are stored at once.
sets_append : (xs ys b : List ℕ) (i : ℕ) → sets b i (xs ++ ys) ≡ sets (sets b i xs) (i + length xs) ys
sets_append [] ys b i =
    let here : i + 0 ≡ i = omega arith in
    rw here
sets_append (a ∷ xs) ys b i =
    let next : i + suc (length xs) ≡ suc i + length xs = omega arith in
    rw next (sets_append xs ys (set b i a) (suc i))

-- The same of files: c is b with the first part, d is c with the second.
pub stored_behind : (b c d xs ys : List ℕ) (i : ℕ) → c ≡ sets b i xs → d ≡ sets c (i + length xs) ys → d ≡ sets b i (xs ++ ys)
stored_behind b c d xs ys i first second =
    second ∙ ap (λ (x : List ℕ). sets x (i + length xs) ys) first ∙ sym (sets_append xs ys b i)

-- Stored from byte 0 on, the bytes stand before what was behind them.
pub sets_front : (vs b : List ℕ) → length vs ≤ length b → sets b 0 vs ≡ vs ++ drop (length vs) b
sets_front vs b fits =
    let front : 0 + length vs ≡ length vs = omega arith in
    rw front at (sets-eq vs b 0 (omega arith))

-- ---- a table of stores

module _ (place : ℕ → ℕ) (vs : ℕ → List ℕ) where
  pub length-stores : (n : ℕ) (b : List ℕ) → length (stores place vs n b) ≡ length b
  unfolding stores
  length-stores zero b = refl
  length-stores (suc n) b = length-sets (stores place vs n b) (place n) (vs n) ∙ length-stores n b

  stores_off : (n : ℕ) (b : List ℕ) (j : ℕ) → ((i : ℕ) → i < n → Off (place i) (vs i) j) → get_or (stores place vs n b) j 0 ≡ get_or b j 0
  unfolding stores
  stores_off zero b j o = refl
  stores_off (suc n) b j o =
      sets_off (vs n) (stores place vs n b) (place n) j (o n (omega arith)) ∙ stores_off n b j (λ i h. o i (omega arith))

  -- What store i wrote, if no later one writes there.
  stores_in : (n : ℕ) (b : List ℕ) (i k : ℕ) → i < n → k < length (vs i) → place i + length (vs i) ≤ length b
      → ((m : ℕ) → i < m → m < n → Off (place m) (vs m) (place i + k)) → get_or (stores place vs n b) (place i + k) 0 ≡ get_or (vs i) k 0
  unfolding stores
  stores_in zero b i k h l fits o = absurd (not-suc-le-zero h)
  stores_in (suc n) b i k h l fits o = go (stores_in n b i k) (eq-or-lt_of_le (le_of_suc-le-suc h))
    where
      go : (i < n → k < length (vs i) → place i + length (vs i) ≤ length b → ((m : ℕ) → i < m → m < n → Off (place m) (vs m) (place i + k)) → get_or (stores place vs n b) (place i + k) 0 ≡ get_or (vs i) k 0)
          → (i ≡ n) ⊎ (i < n) → get_or (sets (stores place vs n b) (place n) (vs n)) (place i + k) 0 ≡ get_or (vs i) k 0
      go earlier (inl e) =
          rw (← e) (sets_in (vs i) (stores place vs i b) (place i) k l (rw length-stores fits))
      go earlier (inr less) =
          sets_off (vs n) (stores place vs n b) (place n) (place i + k) (o n less (omega arith))
          ∙ earlier less l fits (λ m p q. o m p (omega arith))

  pub stores_again : (n : ℕ) (b : List ℕ) → ((i : ℕ) → i < n → (k : ℕ) → k < length (vs i) → get_or b (place i + k) 0 ≡ get_or (vs i) k 0) → stores place vs n b ≡ b
  unfolding stores
  stores_again zero b h = refl
  stores_again (suc n) b h =
      let before = stores_again n b (λ i l. h i (omega arith)) in
      rw before (sets_again (vs n) b (place n) (h n (omega arith)))

-- Byte j is one of the first n places, or none of them.
pub place_or_none : (place : ℕ → ℕ) (n j : ℕ) → ((i : ℕ) × (i < n) × (j ≡ place i)) ⊎ ((i : ℕ) → i < n → j ≡ place i → ⊥)
place_or_none place zero j = inr (λ i h e. not-suc-le-zero h)
place_or_none place (suc n) j = go (place_or_none place n j) (eqb j (place n)) refl
  where
    go : ((i : ℕ) × (i < n) × (j ≡ place i)) ⊎ ((i : ℕ) → i < n → j ≡ place i → ⊥) → (t : Bool) → eqb j (place n) ≡ t
        → ((i : ℕ) × (i < suc n) × (j ≡ place i)) ⊎ ((i : ℕ) → i < suc n → j ≡ place i → ⊥)
    go x true e = inl (n, omega arith, eqb-true j (place n) e)
    go (inl (i, h, q)) false e = inl (i, omega arith, q)
    go (inr none) false e = inr (λ i h q. last i q (eq-or-lt_of_le (le_of_suc-le-suc h)))
      where
        last : (i : ℕ) → j ≡ place i → (i ≡ n) ⊎ (i < n) → ⊥
        last i q (inl k) = eqb-false j (place n) e (q ∙ ap place k)
        last i q (inr k) = none i k q

-- ---- rows of any width w

-- A row ends before a later one begins.
pub row_before : (w i m : ℕ) → i < m → w * i + w ≤ w * m
row_before w i m h = rw (← mul-suc w i) (mul-le-mul_left w h)

-- Byte x of row r and byte y of row m are one byte only if they are one row's one byte.
pub cell_apart : (w base r m x y : ℕ) → x < w → y < w → base + w * r + x ≡ base + w * m + y → (r ≡ m) × (x ≡ y)
cell_apart w base r m x y h k e = go (lt_or_ge r m) (lt_or_ge m r)
  where
    go : (r < m) ⊎ (m ≤ r) → (m < r) ⊎ (r ≤ m) → (r ≡ m) × (x ≡ y)
    go (inl l) z = absurd (omega (arith, row_before w r m l))
    go (inr l) (inl g) = absurd (omega (arith, row_before w m r g))
    go (inr l) (inr g) =
        let q : r ≡ m = omega arith in
        let s : w * r ≡ w * m = ap (λ (n : ℕ). w * n) q in
        (q, omega arith)

-- One byte, byte y, of each of the first n rows is stored.
module _ (w base y : ℕ) (inside : y < w) where
  -- A byte of row r that is byte y of some row m is byte y of row r.
  pub in_row : (r m j : ℕ) → base + w * r ≤ j → j < base + w * r + w → j ≡ base + w * m + y → j ≡ base + w * r + y
  in_row r m j least less e =
      let x : ℕ = j - (base + w * r) in
      let same : base + w * r + x ≡ base + w * m + y = omega arith in
      let c = cell_apart w base r m x y (omega arith) inside same in
      omega (arith, c.1)

  module _ (v : ℕ → ℕ) (n : ℕ) (b : List ℕ) where
    abbrev column : List ℕ
    column = stores (λ m. base + w * m + y) (λ m. v m ∷ []) n b

    -- Any byte that is byte y of none of them stays.
    pub column_off : (j : ℕ) → ((m : ℕ) → m < n → j ≡ base + w * m + y → ⊥) → get_or column j 0 ≡ get_or b j 0
    column_off j none =
        stores_off (λ m. base + w * m + y) (λ m. v m ∷ []) n b j (λ m l. off_one (base + w * m + y) (v m) j (none m l))

    -- The other bytes of any row stay.
    pub column_beside : (r j : ℕ) → base + w * r ≤ j → j < base + w * r + w → (j ≡ base + w * r + y → ⊥) → get_or column j 0 ≡ get_or b j 0
    column_beside r j least less other = column_off j (λ m l e. other (in_row r m j least less e))

    pub column_in : (r : ℕ) → r < n → base + w * r + w ≤ length b → get_or column (base + w * r + y) 0 ≡ v r
    column_in r l fits =
        let here : base + w * r + y + 0 ≡ base + w * r + y = omega arith in
        rw here at (stores_in (λ m. base + w * m + y) (λ m. v m ∷ []) n b r 0 l (omega arith) (omega arith)
        (λ m p q. inl (omega (arith, row_before w r m p))))
