-- Document 01, Pairs: a pair leaves one of its rows without contracts, so rows bound how many pairs there are.
-- Assumes nothing.
use Prim.Native.Nat.{ℕ, zero, suc, ◌+◌, ◌-◌, ◌≤◌, ◌<◌, min}
use mathlib.Core.Bool.{Bool, true, false, cond, ◌||◌, or-true}
use mathlib.Core.Logic.{◌⊎◌, inl, inr}
use mathlib.Core.Path.{◌≡◌, refl, ap, ◌∙◌}
use native.Mathlib.Nat.{add-sub_of_le}
use native.Mathlib.Omega.{arith}
use lib.Dec.{eqb, ltb}
use lib.ListN.{length, take, length-append}
use borrow.Author.Tests.{eq-eqb, ltb-false, ltb-true}
use Rattle.rules.proofs.Rounds.{left_ended, made_ended, made_first, made_full}
use Rattle.rules.proofs.Search.{Allowed, choice_allowed, choice_none}
use Rattle.rules.proofs.Sums.{sum_to_less, sum_to_two, sum_to_under}
use Rattle.rules.proofs.Tests.{lt_or_ge}
use Rattle.rules.proofs.Weights.{Apart}
use Rattle.rules.specs.Lines.{sum_to}
use Rattle.rules.specs.Pairs.{Book, allowed, choice, left_after, made_after, made_by, taken}
use Rattle.std.specs.Prelude.{Option, Some, None}

-- How many rows of the book have contracts left: each such row counts 1.
unfoldable pub open_rows : Book → (ℕ → ℕ) → ℕ
open_rows k left = sum_to (λ r. min 1 (left r)) k.rows

module _ (left : ℕ → ℕ) where
  pub taken_most : (c : Option (ℕ × ℕ)) (r : ℕ) → taken left c r ≤ left r
  taken_most None r = omega arith
  taken_most (Some (w, h)) r = go (eqb r w || eqb r h)
    where
      go : (x : Bool) → cond x (left r - min (left w) (left h)) (left r) ≤ left r
      go true = omega arith
      go false = omega arith

  -- A pair leaves one of its rows without contracts: the one that had no more than the other.
  pub spent : (w h : ℕ) → (taken left (Some (w, h)) w ≡ 0) ⊎ (taken left (Some (w, h)) h ≡ 0)
  spent w h = go (ltb (left w) (left h)) refl
    where
      go : (x : Bool) → ltb (left w) (left h) ≡ x → (taken left (Some (w, h)) w ≡ 0) ⊎ (taken left (Some (w, h)) h ≡ 0)
      go true e = inl (rw (eq-eqb w w refl) (omega (arith, ltb-true)))
      go false e = inr (rw (eq-eqb h h refl, or-true) (omega (arith, ltb-false)))

module _ (k : Book) (left : ℕ → ℕ) where
  pub open_most : open_rows k left ≤ k.rows
  unfolding open_rows
  open_most = omega (arith, sum_to_under (λ r. min 1 (left r)) 1 k.rows (λ r l. omega arith))

  pub open_falls : {w h : ℕ} → choice k left ≡ Some (w, h) → open_rows k (taken left (Some (w, h))) < open_rows k left
  unfolding open_rows
  open_falls {w} {h} e = go (spent left w h)
    where
      a : Allowed k left w h
      a = choice_allowed k left e

      fewer : (r : ℕ) → r < k.rows → min 1 (taken left (Some (w, h)) r) ≤ min 1 (left r)
      fewer r l = omega (arith, taken_most left (Some (w, h)) r)

      go : (taken left (Some (w, h)) w ≡ 0) ⊎ (taken left (Some (w, h)) h ≡ 0) → open_rows k (taken left (Some (w, h))) < open_rows k left
      go (inl z) = sum_to_less _ _ k.rows w a.written_below fewer (omega (arith, a.written_left))
      go (inr z) = sum_to_less _ _ k.rows h a.held_below fewer (omega (arith, a.held_left))

  -- A pair that is found has two rows with contracts left.
  pub open_two : Apart k → {w h : ℕ} → choice k left ≡ Some (w, h) → 2 ≤ open_rows k left
  unfolding open_rows
  open_two apart {w} {h} e =
      let a = choice_allowed k left e in
      omega (
        arith,
        a.written_left,
        a.held_left,
        sum_to_two (λ r. min 1 (left r)) k.rows w h a.written_below a.held_below (apart w h a.may_pair_lem),
      )

module _ (k : Book) (left : ℕ → ℕ) where
  -- Each pair made takes a row.
  pub made_open : (n : ℕ) → open_rows k (left_after k n left) + length (made_after k n left) ≤ open_rows k left
  unfolding left_after made_after
  made_open zero = omega arith
  made_open (suc n) =
      rw length-append (omega (arith, made_open n, round (left_after k n left) (choice k (left_after k n left)) refl))
    where
      round : (now : ℕ → ℕ) (c : Option (ℕ × ℕ)) → choice k now ≡ c → open_rows k (taken now c) + length (made_by now c) ≤ open_rows k now
      round now None e = omega arith
      round now (Some (w, h)) e = omega (arith, open_falls k now e)

  pub bound : (n : ℕ) → length (made_after k n left) + open_rows k (left_after k n left) ≤ k.rows
  bound n = omega (arith, made_open n, open_most k left)

module _ (k : Book) (apart : Apart k) (left : ℕ → ℕ) where
  -- A pair found after n rounds: each of them made one, and two rows more have contracts left.
  pub room : (n : ℕ) {w h : ℕ} → choice k (left_after k n left) ≡ Some (w, h) → n + 2 ≤ open_rows k left
  room n e = omega (arith, made_full k n left e, made_open k left n, open_two k (left_after k n left) apart e)

  -- With as many rounds as there are rows with contracts, less one, nothing is found any more.
  pub done : (n : ℕ) → open_rows k left ≤ n + 1 → choice k (left_after k n left) ≡ None
  done n l = go (choice k (left_after k n left)) refl
    where
      go : (c : Option (ℕ × ℕ)) → choice k (left_after k n left) ≡ c → c ≡ None
      go None e = refl
      go (Some (w, h)) e = absurd (omega (arith, room n e))

  pub all_done : choice k (left_after k k.rows left) ≡ None
  all_done = done k.rows (omega (arith, open_most k left))

  -- After as many rounds as there are rows no pair is allowed.
  pub none_allowed : (w h : ℕ) → w < k.rows → h < k.rows → allowed k (left_after k k.rows left) w h ≡ false
  none_allowed = choice_none k (left_after k k.rows left) all_done

  -- Rounds after those make no pair.
  pub made_all : (n : ℕ) → k.rows ≤ n → made_after k n left ≡ made_after k k.rows left
  made_all n l = rw (← add-sub_of_le l) (made_ended k k.rows (n - k.rows) left all_done)

  pub left_all : (n : ℕ) → k.rows ≤ n → left_after k n left ≡ left_after k k.rows left
  left_all n l = rw (← add-sub_of_le l) (left_ended k k.rows (n - k.rows) left all_done)

  -- The pairs of n rounds are the first n of all the pairs, or all of them.
  pub made_take : (n : ℕ) → made_after k n left ≡ take n (made_after k k.rows left)
  made_take n = made_first k n k.rows left ∙ ap (take n) (made_all (n + k.rows) (omega arith))

  -- There are fewer pairs than rows with contracts at the start.
  pub made_fewer : (n : ℕ) → 1 ≤ open_rows k left → length (made_after k n left) < open_rows k left
  unfolding made_after
  made_fewer zero l = l
  made_fewer (suc n) l = rw length-append (go (choice k (left_after k n left)) refl (made_fewer n l))
    where
      go : (c : Option (ℕ × ℕ)) → choice k (left_after k n left) ≡ c → length (made_after k n left) < open_rows k left
          → length (made_after k n left) + length (made_by (left_after k n left) c) < open_rows k left
      go None e before = omega arith
      go (Some (w, h)) e before = omega (arith, made_full k n left e, room n e)

  -- There are fewer pairs than rows, or none.
  pub made_below : (n : ℕ) → length (made_after k n left) ≤ k.rows - 1
  made_below n = go (lt_or_ge 0 (open_rows k left))
    where
      go : (0 < open_rows k left) ⊎ (open_rows k left ≤ 0) → length (made_after k n left) ≤ k.rows - 1
      go (inl some) = omega (arith, made_fewer n (omega arith), open_most k left)
      go (inr none) = omega (arith, made_open k left n)
