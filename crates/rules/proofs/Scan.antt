-- A table's rows: clean to the end, or a first faulty row, and what `rows` gives of either.
-- Assumes nothing.
use Prim.Native.Nat.{ℕ, zero, suc, ◌<◌}
use mathlib.Core.Logic.{◌⊎◌, inl, inr}
use mathlib.Core.Path.{◌≡◌, refl, sym, ◌∙◌, ap, subst}
use native.Mathlib.Nat.{eq-or-lt_of_le, le_of_suc-le-suc, not-suc-le-zero}
use native.Mathlib.Omega.{arith}
use Rattle.rules.specs.Refusals.{Fault, clean, or_else, refused_at, rows}
use Rattle.rules.specs.declared.Refusal.{Refusal}
use Rattle.std.specs.Prelude.{Result, Ok, Err}
use Rattle.rules.specs.declared.Refused.{Refused}
use Rattle.rules.specs.declared.Layout.{Layout}

-- Rows 0 to n - 1 are without fault.
abbrev pub CleanTo : (ℕ → Fault) → ℕ → Type 0
CleanTo f n = (i : ℕ) → i < n → f i ≡ clean

-- Of rows 0 to n - 1, row i is the first faulty one, with the fault w.
pub record FirstAt (f : ℕ → Fault) (n i : ℕ) (w : Refusal) : Type 0 where
  pub there : i < n
  pub before : CleanTo f i
  pub fault : f i ≡ Err w

pub clean_none : (f : ℕ → Fault) → CleanTo f 0
clean_none f i h = absurd (not-suc-le-zero h)

pub clean_more : (f : ℕ → Fault) (n : ℕ) → CleanTo f n → f n ≡ clean → CleanTo f (suc n)
clean_more f n before here i h = go (eq-or-lt_of_le (le_of_suc-le-suc h))
  where
    go : (i ≡ n) ⊎ (i < n) → f i ≡ clean
    go (inl e) = ap f e ∙ here
    go (inr l) = before i l

-- What rows gives of a clean table, whatever comes after it.
pub rows_clean : (f : ℕ → Fault) (n : ℕ) (next : Result Layout Refused) → CleanTo f n → rows f n next ≡ next
unfolding rows
rows_clean f zero next c = refl
rows_clean f (suc n) next c =
    rows_clean f n (or_else (f n) n next) (λ i h. c i (omega arith))
    ∙ ap (λ (x : Fault). or_else x n next) (c n (omega arith))

-- What rows gives of a table with a first faulty row.
pub rows_stop : (f : ℕ → Fault) (n i : ℕ) (w : Refusal) (next : Result Layout Refused) → FirstAt f n i w → rows f n next ≡ refused_at w i
unfolding rows
rows_stop f zero i w next a = absurd (not-suc-le-zero a.there)
rows_stop f (suc n) i w next a =
    go (rows_stop f n i w (or_else (f n) n next)) (eq-or-lt_of_le (le_of_suc-le-suc a.there))
  where
    go : (FirstAt f n i w → rows f n (or_else (f n) n next) ≡ refused_at w i) → (i ≡ n) ⊎ (i < n) → rows f n (or_else (f n) n next) ≡ refused_at w i
    go earlier (inl e) =
        rows_clean f n (or_else (f n) n next) (subst (CleanTo f) e a.before)
        ∙ ap (λ (x : Fault). or_else x n next) (sym (ap f e) ∙ a.fault)
        ∙ ap (refused_at w) (sym e)
    go earlier (inr l) = earlier (record { there = l; before = a.before; fault = a.fault })

-- Either the table is clean or it has a first faulty row.
pub scan : (f : ℕ → Fault) (n : ℕ) → CleanTo f n ⊎ ((i : ℕ) × (w : Refusal) × FirstAt f n i w)
scan f zero = inl (clean_none f)
scan f (suc n) = go (scan f n) (f n) refl
  where
    go : CleanTo f n ⊎ ((i : ℕ) × (w : Refusal) × FirstAt f n i w) → (x : Fault) → f n ≡ x → CleanTo f (suc n) ⊎ ((i : ℕ) × (w : Refusal) × FirstAt f (suc n) i w)
    go (inl c) (Ok u) e = inl (clean_more f n c e)
    go (inl c) (Err w) e = inr (n, w, record { there = omega arith; before = c; fault = e })
    go (inr (i, w, a)) x e =
        inr (i, w, record { there = omega (arith, a.there); before = a.before; fault = a.fault })
