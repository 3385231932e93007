-- Document 01, Pairs: what every pair made is like, and the weight law: give each row a weight; what the contracts left
-- weigh and what the pairs made weigh add up to what the contracts weighed at the start.
-- Assumes nothing.
use Prim.Native.Nat.{ℕ, zero, suc, ◌+◌, ◌*◌, ◌≤◌, ◌<◌}
use mathlib.Core.Bool.{Bool, true, false, cond, ◌||◌}
use mathlib.Core.List.{List}
use mathlib.Core.Logic.{◌≢◌}
use mathlib.Core.Path.{◌≡◌, refl, sym, ap, ap₂, ◌∙◌}
use native.Mathlib.Nat.{mul-add}
use native.Mathlib.Omega.{arith}
use lib.Dec.{eqb}
use borrow.Author.Tests.{eq-eqb, eqb-true, ne_eqb}
use Rattle.rules.proofs.Rounds.{made_left, named}
use Rattle.rules.proofs.Search.{choice_allowed}
use Rattle.rules.proofs.Sums.{each_append, each_map, sum_over-same, sum_over-scale, sum_to_add, sum_to_only, sum_to_same, sum_to_sum_over}
use Rattle.rules.specs.Lines.{Each, sum_over, sum_to}
use Rattle.rules.specs.Pairs.{Book, Made, choice, left_after, made_after, made_by}
use Rattle.std.specs.Prelude.{Option, Some, None}

-- No row pairs with itself.
abbrev pub Apart : Book → Type 0
Apart k = (w h : ℕ) → k.may w h ≡ true → w ≢ h

-- A pair of two rows of the book that pair, with a quantity.
pub record Sound (k : Book) (m : Made) : Type 0 where
  pub written_below : m.written < k.rows
  pub held_below : m.held < k.rows
  pub may_pair_lem : k.may m.written m.held ≡ true
  pub quantity_some : 1 ≤ m.quantity

made_by-sound : (k : Book) (left : ℕ → ℕ) (c : Option (ℕ × ℕ)) → choice k left ≡ c → Each (Sound k) (made_by left c)
made_by-sound k left None e = tt
made_by-sound k left (Some (w, h)) e =
    let a = choice_allowed k left e in (
      record {
        written_below = a.written_below;
        held_below = a.held_below;
        may_pair_lem = a.may_pair_lem;
        quantity_some = omega arith;
      },
      tt,
    )

pub made_sound : (k : Book) (left : ℕ → ℕ) (n : ℕ) → Each (Sound k) (made_after k n left)
unfolding made_after
made_sound k left zero = tt
made_sound k left (suc n) =
    each_append (Sound k) (made_after k n left) (made_by (left_after k n left) (choice k (left_after k n left)))
    (made_sound k left n) (made_by-sound k (left_after k n left) (choice k (left_after k n left)) refl)

-- What a pair made weighs, summed over the rows that it names.
weight_named : (f : ℕ → ℕ) (n : ℕ) (m : Made) → m.written < n → m.held < n → m.written ≢ m.held
    → sum_to (λ r. f r * named r m) n ≡ (f m.written + f m.held) * m.quantity
weight_named f n m lw lh apart =
    sum_to_same (λ r. f r * named r m) (λ r. spot m.written r + spot m.held r) n (λ r l. split r)
    ∙ sum_to_add (spot m.written) (spot m.held) n
    ∙ ap₂ (λ x y. x + y) (sum_spot m.written lw) (sum_spot m.held lh)
    ∙ omega arith
  where
    spot : ℕ → ℕ → ℕ
    spot i r = cond (eqb i r) (f r * m.quantity) 0

    sum_spot : (i : ℕ) → i < n → sum_to (spot i) n ≡ f i * m.quantity
    sum_spot i l = sum_to_only (spot i) n i l (λ r b d. rw (ne_eqb i r (λ e. d (sym e)))) ∙ rw (eq-eqb i i refl)

    split : (r : ℕ) → f r * named r m ≡ spot m.written r + spot m.held r
    split r = go (eqb m.written r) (eqb m.held r) refl refl
      where
        go : (x y : Bool) → eqb m.written r ≡ x → eqb m.held r ≡ y
            → f r * cond (x || y) m.quantity 0 ≡ cond x (f r * m.quantity) 0 + cond y (f r * m.quantity) 0
        go true true e d = absurd (apart (eqb-true m.written r e ∙ sym (eqb-true m.held r d)))
        go true false e d = omega arith
        go false true e d = omega arith
        go false false e d = omega arith

pub weighed : (k : Book) → Apart k → (left : ℕ → ℕ) (f : ℕ → ℕ) (n : ℕ)
    → sum_to (λ r. f r * left_after k n left r) k.rows
    + sum_over (λ m. (f m.written + f m.held) * m.quantity) (made_after k n left)
    ≡ sum_to (λ r. f r * left r) k.rows
weighed k apart left f n = omega (arith, rows, pairs)
  where
    made : List Made
    made = made_after k n left

    rows : sum_to (λ r. f r * left r) k.rows
        ≡ sum_to (λ r. f r * sum_over (named r) made) k.rows + sum_to (λ r. f r * left_after k n left r) k.rows
    rows =
        sum_to_same (λ r. f r * left r) (λ r. f r * sum_over (named r) made + f r * left_after k n left r) k.rows
        (λ r l. ap (λ x. f r * x) (sym (made_left k left n r)) ∙ mul-add (f r) _ _)
        ∙ sum_to_add (λ r. f r * sum_over (named r) made) (λ r. f r * left_after k n left r) k.rows

    pairs : sum_to (λ r. f r * sum_over (named r) made) k.rows
        ≡ sum_over (λ m. (f m.written + f m.held) * m.quantity) made
    pairs =
        sum_to_same (λ r. f r * sum_over (named r) made) (λ r. sum_over (λ m. f r * named r m) made) k.rows
        (λ r l. sym (sum_over-scale (f r) (named r) made))
        ∙ sum_to_sum_over (λ r m. f r * named r m) k.rows made
        ∙ sum_over-same _ _ made
        (each_map
        (λ m s. weight_named f k.rows m s.written_below s.held_below (apart m.written m.held s.may_pair_lem))
        made (made_sound k left n))
