-- Document 01, Pairs: sums over pair lines followed by left lines, and what holds of each of them, whatever the pairs, the
-- contracts left and the rows; and how many lines an account has after n rounds, for every n.
-- Assumes nothing.
use Prim.Native.Nat.{ℕ, zero, suc, ◌+◌, ◌*◌, ◌-◌, ◌≤◌, ◌<◌, min}
use mathlib.Core.Bool.{Bool, true, false, cond}
use mathlib.Core.List.{List, [], ◌∷◌, ◌++◌}
use mathlib.Core.Path.{◌≡◌, refl, sym, ap, ap₂, ◌∙◌}
use native.Mathlib.Omega.{arith}
use lib.Dec.{ltb}
use lib.ListN.{length, length-append}
use borrow.Author.Tests.{eq-eqb, ltb-false, ltb-true, ne_eqb}
use Rattle.rules.proofs.Counts.{made_below}
use Rattle.rules.proofs.MayPair.{apart}
use Rattle.rules.proofs.Rounds.{named}
use Rattle.rules.proofs.Sums.{each_append, sum_over-append, sum_over-none, sum_to_none, sum_to_only, sum_to_same, sum_to_under}
use Rattle.rules.specs.File.{Account, series_of_row}
use Rattle.rules.specs.Lines.{Each, left_amount, left_amount_at, left_line, left_lines, left_with_blocked, line_amount, lines, lines_after, pair_line, pair_lines, spread_amount, sum_over, sum_to, total, total_after}
use Rattle.rules.specs.Pairs.{Made, available, book_of, pairs_after}
use Rattle.rules.specs.Promises.{line_brings_in, left_quantity, pair_quantity, row_payment}
use Rattle.rules.specs.declared.Line.{Line}
use Rattle.rules.specs.declared.Position.{Position}
use Rattle.rules.specs.declared.Series.{Series}
use Rattle.rules.specs.declared.Side.{Side}
use Rattle.rules.specs.declared.Side.TheVariants.{Held, Written}

-- The lines and the total of an account are those after p rounds.
pub lines_are : (a : Account) → lines a ≡ lines_after a a.positions
unfolding lines
lines_are a = refl

pub total_is : (a : Account) → total a ≡ total_after a a.positions
unfolding total
total_is a = refl

module _ (a : Account) (f : Line → ℕ) where
  -- The sum over the pair lines is that over the pairs.
  pub sum_pairs : (l : List Made) → sum_over f (pair_lines a l) ≡ sum_over (λ m. f (pair_line a m)) l
  unfolding sum_over pair_lines
  sum_pairs [] = refl
  sum_pairs (m ∷ l) = rw (sum_pairs l)

  -- A row has a line if it has contracts left.
  sum_left : (left : ℕ → ℕ) (n : ℕ)
      → sum_over f (left_lines a left n) ≡ sum_to (λ r. cond (ltb 0 (left r)) (f (left_line a r (left r))) 0) n
  unfolding sum_over sum_to left_lines
  sum_left left zero = refl
  sum_left left (suc r) = sum_over-append f (left_lines a left r) _ ∙ ap₂ (λ x y. x + y) (sum_left left r) (go (ltb 0 (left r)))
    where
      go : (x : Bool) → sum_over f (cond x (left_line a r (left r) ∷ []) []) ≡ cond x (f (left_line a r (left r))) 0
      go true = omega arith
      go false = refl

  pub sum_lines : (l : List Made) (left : ℕ → ℕ) (n : ℕ) → sum_over f (pair_lines a l ++ left_lines a left n)
      ≡ sum_over (λ m. f (pair_line a m)) l + sum_to (λ r. cond (ltb 0 (left r)) (f (left_line a r (left r))) 0) n
  sum_lines l left n =
      sum_over-append f (pair_lines a l) _ ∙ ap₂ (λ x y. x + y) (sum_pairs l) (sum_left left n)

-- What holds of each pair's line and of each row's left line holds of each line.
module _ (a : Account) (P : Line → Type 0) where
  each_pair : (l : List Made) → Each (λ m. P (pair_line a m)) l → Each P (pair_lines a l)
  unfolding pair_lines
  each_pair [] each = tt
  each_pair (m ∷ l) each = (each.0, each_pair l each.1)

  each_left : (left : ℕ → ℕ) (n : ℕ) → ((r : ℕ) → r < n → P (left_line a r (left r))) → Each P (left_lines a left n)
  unfolding left_lines
  each_left left zero each = tt
  each_left left (suc r) each =
      each_append P (left_lines a left r) _ (each_left left r (λ i l. each i (omega arith))) (go (ltb 0 (left r)))
    where
      go : (t : Bool) → Each P (cond t (left_line a r (left r) ∷ []) [])
      go true = (each r (omega arith), tt)
      go false = tt

  pub each_line : (l : List Made) (left : ℕ → ℕ) (n : ℕ) → Each (λ m. P (pair_line a m)) l
      → ((r : ℕ) → r < n → P (left_line a r (left r))) → Each P (pair_lines a l ++ left_lines a left n)
  each_line l left n pairs rows = each_append P (pair_lines a l) _ (each_pair l pairs) (each_left left n rows)

pub same_either : (x : Bool) (n : ℕ) → cond x n n ≡ n
same_either true n = refl
same_either false n = refl

-- A number that is 0 where a row has no contracts left needs no test for that.
no_test : (q n : ℕ) → (q ≡ 0 → n ≡ 0) → cond (ltb 0 q) n 0 ≡ n
no_test q n e = go (ltb 0 q) refl
  where
    go : (x : Bool) → ltb 0 q ≡ x → cond x n 0 ≡ n
    go true t = refl
    go false t = sym (e (omega (arith, ltb-false)))

none_left : (side : Side) (s : Series) (p : Position) (q : ℕ) → q ≡ 0 → left_amount side s p q ≡ 0
none_left Held s p q e = refl
none_left Written s p q e = rw e (omega arith)

-- The lines of the pairs l, and of rows 0 to n - 1 with the contracts left.
module _ (a : Account) (l : List Made) (left : ℕ → ℕ) (n : ℕ) where
  -- The quantities of the pair lines that name row r are those of the pairs.
  pub pair_quantities : (r : ℕ) → sum_over (pair_quantity r) (pair_lines a l ++ left_lines a left n) ≡ sum_over (named r) l
  pair_quantities r =
      omega (arith, sum_lines a (pair_quantity r) l left n, sum_to_none _ n (λ i b. same_either (ltb 0 (left i)) 0))

  -- The quantity of row r's left line is what is left in it.
  pub left_quantities : (r : ℕ) → r < n → sum_over (left_quantity r) (pair_lines a l ++ left_lines a left n) ≡ left r
  left_quantities r b = omega (arith, sum_lines a (left_quantity r) l left n, sum_over-none l, rows)
    where
      rows : sum_to (λ i. cond (ltb 0 (left i)) (left_quantity r (left_line a i (left i))) 0) n ≡ left r
      rows =
          sum_to_only _ n r b (λ i c d. rw (ne_eqb i r d) (same_either (ltb 0 (left i)) 0))
          ∙ rw (eq-eqb r r refl) (no_test (left r) (left r) (λ e. e))

  -- The amounts of the lines: each pair's, and each written row's for what is left of it.
  pub amounts : sum_over line_amount (pair_lines a l ++ left_lines a left n)
      ≡ sum_over (spread_amount a) l + sum_to (λ r. left_amount_at a r (left r)) n
  amounts =
      sum_lines a line_amount l left n
      ∙ ap (λ x. sum_over (spread_amount a) l + x)
      (sum_to_same _ _ n
      (λ r b. no_test (left r) _ (none_left (a.position_at r).side (series_of_row a r) (a.position_at r) (left r))))

  -- What the lines bring in, the pairs bring in.
  pub brought : (path : ℕ → List ℕ) → sum_over (line_brings_in a path) (pair_lines a l ++ left_lines a left n)
      ≡ sum_over (λ m. row_payment a path m.held * (series_of_row a m.held).m * m.quantity) l
  brought path =
      omega (arith, sum_lines a (line_brings_in a path) l left n, sum_to_none _ n (λ i b. same_either (ltb 0 (left i)) 0))

pub pair_lines-append : (a : Account) (l m : List Made) → pair_lines a (l ++ m) ≡ pair_lines a l ++ pair_lines a m
unfolding pair_lines
pair_lines-append a [] m = refl
pair_lines-append a (x ∷ l) m = ap (λ t. pair_line a x ∷ t) (pair_lines-append a l m)

pub length-pair_lines : (a : Account) (l : List Made) → length (pair_lines a l) ≡ length l
unfolding pair_lines
length-pair_lines a [] = refl
length-pair_lines a (m ∷ l) = ap suc (length-pair_lines a l)

-- A left line for each row with contracts left.
pub length-left_lines : (a : Account) (left : ℕ → ℕ) (n : ℕ) → length (left_lines a left n) ≡ sum_to (λ r. min 1 (left r)) n
unfolding left_lines sum_to
length-left_lines a left zero = refl
length-left_lines a left (suc r) =
    length-append (left_lines a left r) _ ∙ ap₂ (λ x y. x + y) (length-left_lines a left r) (go (ltb 0 (left r)) refl)
  where
    go : (x : Bool) → ltb 0 (left r) ≡ x → length (cond x (left_line a r (left r) ∷ []) []) ≡ min 1 (left r)
    go true e = omega (arith, ltb-true)
    go false e = omega (arith, ltb-false)

pub length-lines : (a : Account) (l : List Made) (left : ℕ → ℕ) (n : ℕ)
    → length (pair_lines a l ++ left_lines a left n) ≡ length l + sum_to (λ r. min 1 (left r)) n
length-lines a l left n =
    length-append (pair_lines a l) _ ∙ ap₂ (λ x y. x + y) (length-pair_lines a l) (length-left_lines a left n)

-- "there can be up to 2 × p − 1 lines" (document 02 [9]): p - 1 pairs, and a left line for each row. Where p is 0 it is 0.
pub line_count_lem : (a : Account) (n : ℕ) → length (lines_after a n) ≤ 2 * a.positions - 1
line_count_lem a n =
    omega (
      arith,
      length-lines a (pairs_after a n) (left_with_blocked a n) a.positions,
      made_below (book_of a) (apart a) (available a) n,
      sum_to_under (λ r. min 1 (left_with_blocked a n r)) 1 a.positions (λ r l. omega arith),
    )
