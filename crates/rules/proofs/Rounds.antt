-- Document 01, Pairs: what n rounds of pairing do, for every n.
-- Assumes nothing.
use Prim.Native.Nat.{ℕ, zero, suc, ◌+◌, ◌-◌, ◌≤◌, ◌<◌, min}
use mathlib.Core.Bool.{Bool, true, false, cond, ◌||◌}
use mathlib.Core.List.{[], ◌++◌, append_assoc, append-nil}
use mathlib.Core.Path.{◌≡◌, refl, sym, ap, ap₂, ◌∙◌}
use native.Mathlib.Nat.{add-suc, add-zero}
use native.Mathlib.Numerals.{add-one}
use native.Mathlib.Omega.{arith}
use lib.Dec.{eqb}
use lib.ListN.{length, take, length-append}
use lib.Seq.{take_all, take_at}
use borrow.Author.Tests.{eqb-true}
use Rattle.rules.proofs.Tests.{eqb_sym}
use Rattle.rules.proofs.Search.{choice_allowed, choice_same}
use Rattle.rules.proofs.Sums.{sum_over-append}
use Rattle.rules.specs.Lines.{sum_over}
use Rattle.rules.specs.Pairs.{Book, Made, choice, left_after, made_after, made_by, taken}
use Rattle.std.specs.Prelude.{Option, Some, None}

module _ (k : Book) where
  -- One more round.
  pub left_more : (n : ℕ) (left : ℕ → ℕ) → left_after k (n + 1) left ≡ taken (left_after k n left) (choice k (left_after k n left))
  unfolding left_after
  left_more n left = rw add-one

  pub made_more : (n : ℕ) (left : ℕ → ℕ)
      → made_after k (n + 1) left ≡ made_after k n left ++ made_by (left_after k n left) (choice k (left_after k n left))
  unfolding made_after
  made_more n left = rw add-one

  -- n + m rounds are n rounds and then m more.
  pub left_add : (n m : ℕ) (left : ℕ → ℕ) → left_after k (n + m) left ≡ left_after k m (left_after k n left)
  unfolding left_after
  left_add n zero left = rw add-zero
  left_add n (suc m) left = rw (add-suc n m, left_add n m left)

  pub made_add : (n m : ℕ) (left : ℕ → ℕ)
      → made_after k (n + m) left ≡ made_after k n left ++ made_after k m (left_after k n left)
  unfolding made_after
  made_add n zero left = rw (add-zero n, append-nil)
  made_add n (suc m) left =
      rw (add-suc n m, made_add n m left, left_add n m left, append_assoc)

  -- A round that finds nothing changes nothing, ever after.
  pub left_still : (n : ℕ) (left : ℕ → ℕ) → choice k left ≡ None → left_after k n left ≡ left
  unfolding left_after
  left_still zero left e = refl
  left_still (suc n) left e = rw (left_still n left e, e)

  pub made_still : (n : ℕ) (left : ℕ → ℕ) → choice k left ≡ None → made_after k n left ≡ []
  unfolding made_after
  made_still zero left e = refl
  made_still (suc n) left e = rw (made_still n left e, left_still n left e, e)

  pub left_ended : (n m : ℕ) (left : ℕ → ℕ) → choice k (left_after k n left) ≡ None
      → left_after k (n + m) left ≡ left_after k n left
  left_ended n m left e = left_add n m left ∙ left_still m (left_after k n left) e

  pub made_ended : (n m : ℕ) (left : ℕ → ℕ) → choice k (left_after k n left) ≡ None
      → made_after k (n + m) left ≡ made_after k n left
  made_ended n m left e = rw (made_add n m left, made_still m (left_after k n left) e, append-nil)

  -- A round that finds a pair comes after rounds that each made one.
  pub made_full : (n : ℕ) (left : ℕ → ℕ) {w h : ℕ} → choice k (left_after k n left) ≡ Some (w, h)
      → length (made_after k n left) ≡ n
  unfolding left_after made_after
  made_full zero left e = refl
  made_full (suc n) left e = go (choice k (left_after k n left)) refl (λ v g f. made_full n left f)
    where
      go : (c : Option (ℕ × ℕ)) → choice k (left_after k n left) ≡ c
          → ((v g : ℕ) → choice k (left_after k n left) ≡ Some (v, g) → length (made_after k n left) ≡ n)
          → length (made_after k n left ++ made_by (left_after k n left) c) ≡ suc n
      go None f before = let z : ◌≡◌ {A = ℕ} 0 1 = cc in absurd (omega arith)
      go (Some (v, g)) f before = rw length-append (omega (arith, before v g f))

  pub made_count : (n : ℕ) (left : ℕ → ℕ) → length (made_after k n left) ≤ n
  unfolding made_after
  made_count zero left = omega arith
  made_count (suc n) left = rw length-append (omega (arith, made_count n left, at_most (choice k (left_after k n left))))
    where
      at_most : (c : Option (ℕ × ℕ)) → length (made_by (left_after k n left) c) ≤ 1
      at_most None = omega arith
      at_most (Some (w, h)) = omega arith

  -- The pairs of n rounds are the first n of the pairs of more rounds, or all of them.
  pub made_first : (n m : ℕ) (left : ℕ → ℕ) → made_after k n left ≡ take n (made_after k (n + m) left)
  made_first n m left = go (choice k (left_after k n left)) refl
    where
      go : (c : Option (ℕ × ℕ)) → choice k (left_after k n left) ≡ c → made_after k n left ≡ take n (made_after k (n + m) left)
      go None e = rw (made_ended n m left e) (sym (take_all n (made_after k n left) (made_count n left)))
      go (Some (w, h)) e = rw (made_add n m left) (sym (take_at _ _ n (made_full n left e)))

-- Contracts left that are the same in each row of the book stay so, and give the same pairs.
module _ (k : Book) (left left' : ℕ → ℕ) (same : (r : ℕ) → r < k.rows → left r ≡ left' r) where
  taken_same : (c : Option (ℕ × ℕ)) → choice k left ≡ c → (r : ℕ) → r < k.rows → taken left c r ≡ taken left' c r
  taken_same None e r l = same r l
  taken_same (Some (w, h)) e r l =
      let a = choice_allowed k left e in
      rw (same r l, same w a.written_below, same h a.held_below)

  made_by-same : (c : Option (ℕ × ℕ)) → choice k left ≡ c → made_by left c ≡ made_by left' c
  made_by-same None e = refl
  made_by-same (Some (w, h)) e =
      let a = choice_allowed k left e in
      rw (same w a.written_below, same h a.held_below)

module _ (k : Book) (left left' : ℕ → ℕ) (same : (r : ℕ) → r < k.rows → left r ≡ left' r) where
  pub left_same : (n r : ℕ) → r < k.rows → left_after k n left r ≡ left_after k n left' r
  unfolding left_after
  left_same zero r l = same r l
  left_same (suc n) r l =
      taken_same k (left_after k n left) (left_after k n left') (left_same n) (choice k (left_after k n left)) refl r l
      ∙ ap (λ c. taken (left_after k n left') c r) (choice_same k (left_after k n left) (left_after k n left') (left_same n))

  pub made_same : (n : ℕ) → made_after k n left ≡ made_after k n left'
  unfolding made_after
  made_same zero = refl
  made_same (suc n) =
      ap₂ (λ l m. l ++ m) (made_same n)
      (made_by-same k (left_after k n left) (left_after k n left') (left_same n) (choice k (left_after k n left)) refl
      ∙ ap (made_by (left_after k n left')) (choice_same k (left_after k n left) (left_after k n left') (left_same n)))

-- The quantity of a made pair that names row r.
abbrev pub named : ℕ → Made → ℕ
named r m = cond (eqb m.written r || eqb m.held r) m.quantity 0

-- A row loses what the pair takes from it.
taken_named : (left : ℕ → ℕ) (c : Option (ℕ × ℕ)) (r : ℕ) → sum_over (named r) (made_by left c) + taken left c r ≡ left r
unfolding sum_over
taken_named left None r = omega arith
taken_named left (Some (w, h)) r = rw (eqb_sym w r, eqb_sym h r) (go (eqb r w) (eqb r h) refl refl)
  where
    go : (x y : Bool) → eqb r w ≡ x → eqb r h ≡ y
        → cond (x || y) (min (left w) (left h)) 0 + 0 + cond (x || y) (left r - min (left w) (left h)) (left r) ≡ left r
    go true y e f = omega (arith, ap left (eqb-true r w e))
    go false true e f = omega (arith, ap left (eqb-true r h f))
    go false false e f = omega arith

module _ (k : Book) (left : ℕ → ℕ) where
  -- The quantities of the pairs that name a row, and the contracts left in it, add up to the contracts at the start.
  pub made_left : (n r : ℕ) → sum_over (named r) (made_after k n left) + left_after k n left r ≡ left r
  unfolding sum_over left_after made_after
  made_left zero r = omega arith
  made_left (suc n) r =
      omega (
        arith,
        made_left n r,
        taken_named (left_after k n left) (choice k (left_after k n left)) r,
        sum_over-append (named r) (made_after k n left) (made_by (left_after k n left) (choice k (left_after k n left))),
      )

  -- Contracts left only fall.
  pub left_falls : (n r : ℕ) → left_after k n left r ≤ left r
  left_falls n r = omega (arith, made_left n r)
