-- Document 02 [7], Pairing in instalments: lines compared one by one, the first pairs of an account, and the answers by the
-- reading and by the checks after it.
-- Assumes nothing.
use Prim.Native.Nat.{ℕ, zero, suc, ◌+◌, ◌≤◌, ◌<◌, min}
use mathlib.Core.Bool.{true, false, ◌&&◌, and_assoc, and-true, false≢true}
use mathlib.Core.List.{List, [], ◌∷◌, ◌++◌}
use mathlib.Core.Path.{◌≡◌, refl, sym, ap, ap₂, fun_ext, ◌∙◌}
use native.Mathlib.Nat.{le_of_suc-le-suc}
use native.Mathlib.Omega.{arith}
use lib.ListN.{get_or, length, take, length-take}
use lib.Seq.{take-nil}
use borrow.Author.Tests.{eq-eqb, eqb-true, le-ltb, lt-ltb}
use Rattle.rules.proofs.Counts.{made_take}
use Rattle.rules.proofs.LineLaws.{total_is}
use Rattle.rules.proofs.MayPair.{apart}
use Rattle.rules.proofs.Rounds.{made_count, made_left, named}
use Rattle.rules.proofs.Tests.{both, both_hold}
use Rattle.rules.specs.File.{Account}
use Rattle.rules.specs.Instalments.{all_pairs, amount_for_list, amount_so_far, begins_with, instalment_fault, list_for, list_paired, made_of, not_first_pairs, pair_answer, pair_for_file, same_line}
use Rattle.rules.specs.Lines.{entries_for, left_lines, line_amount, pair_lines, premiums, sum_over, total, total_after}
use Rattle.rules.specs.Pairs.{Made, available, book_of, contracts_after, pairs_after}
use Rattle.rules.specs.Refusals.{clean, file_read, refuse}
use Rattle.rules.specs.declared.Line.{Line}
use Rattle.rules.specs.declared.Refusal.TheVariants.{ListTooShort, NotFirstPairs}
use Rattle.std.specs.Prelude.{Result, Err}
use Rattle.rules.specs.declared.Refused.{Refused}
use Rattle.rules.specs.declared.Layout.{Layout}

-- Entries with the same five numbers are the same, and an entry has the same as itself.
pub same_line_lem : (x y : Line) → same_line x y ≡ true → x ≡ y
same_line_lem x y e =
    let fifth = both _ _ e in
    let fourth = both _ _ fifth.0 in
    let third = both _ _ fourth.0 in
    let second = both _ _ third.0 in
    let kinds = eqb-true x.kind y.kind second.0 in
    let seconds = eqb-true x.secondNumber y.secondNumber second.1 in
    let thirds = eqb-true x.thirdNumber y.thirdNumber third.1 in
    let fourths = eqb-true x.fourthNumber y.fourthNumber fourth.1 in
    let fifths = eqb-true x.fifthNumber y.fifthNumber fifth.1 in
    λ i.
    record {
      kind = kinds i;
      secondNumber = seconds i;
      thirdNumber = thirds i;
      fourthNumber = fourths i;
      fifthNumber = fifths i;
    }

pub line_same : (x : Line) → same_line x x ≡ true
line_same x =
    rw (
      eq-eqb x.kind x.kind refl,
      eq-eqb x.secondNumber x.secondNumber refl,
      eq-eqb x.thirdNumber x.thirdNumber refl,
      eq-eqb x.fourthNumber x.fourthNumber refl,
      eq-eqb x.fifthNumber x.fifthNumber refl,
    )

-- Every list begins with no lines.
pub begins_none : (ys : List Line) → begins_with [] ys ≡ true
unfolding begins_with
begins_none ys = refl

-- A list begins with one line more where it begins with those before it and its next entry is that line.
pub begins_more : (l : List Line) (x d : Line) (ys : List Line) → length l < length ys
    → begins_with (l ++ (x ∷ [])) ys ≡ (begins_with l ys && same_line x (get_or ys (length l) d))
unfolding begins_with
begins_more [] x d [] h = absurd (omega arith)
begins_more [] x d (y ∷ ys) h = and-true (same_line x y)
begins_more (z ∷ l) x d [] h = absurd (omega arith)
begins_more (z ∷ l) x d (y ∷ ys) h =
    ap (λ t. same_line z y && t) (begins_more l x d ys (le_of_suc-le-suc h))
    ∙ sym (and_assoc (same_line z y) (begins_with l ys) (same_line x (get_or ys (length l) d)))

-- The lines that a list begins with are its first entries, and the other way round.
pub begins_take : (l ys : List Line) → begins_with l ys ≡ true → take (length l) ys ≡ l
unfolding begins_with
begins_take [] ys e = refl
begins_take (x ∷ l) [] e = absurd (false≢true e)
begins_take (x ∷ l) (y ∷ ys) e =
    let t = both (same_line x y) (begins_with l ys) e in
    ap₂ (λ z r. z ∷ r) (sym (same_line_lem x y t.0)) (begins_take l ys t.1)

pub take_begins : (l ys : List Line) → take (length l) ys ≡ l → begins_with l ys ≡ true
unfolding begins_with
take_begins [] ys e = refl
take_begins (x ∷ l) [] e = let z : ◌≡◌ {A = ℕ} 0 1 = cc in absurd (omega arith)
take_begins (x ∷ l) (y ∷ ys) e =
    let first : y ≡ x = cc in
    let rest : take (length l) ys ≡ l = cc in
    both_hold (same_line x y) (begins_with l ys) (rw first (line_same x)) (take_begins l ys rest)

-- Two beginnings of a list that are equally long are the same.
take_same : {A : Type 0} (l : List A) (m n : ℕ) → length (take m l) ≡ length (take n l) → take m l ≡ take n l
take_same [] m n e = take-nil m ∙ sym (take-nil n)
take_same (x ∷ l) zero zero e = refl
take_same (x ∷ l) zero (suc n) e = absurd (omega arith)
take_same (x ∷ l) (suc m) zero e = absurd (omega arith)
take_same (x ∷ l) (suc m) (suc n) e = ap (λ t. x ∷ t) (take_same l m n (omega arith))

module _ (a : Account) where
  -- The first n pairs are those of n rounds.
  pub first_after : (n : ℕ) → take n (all_pairs a) ≡ pairs_after a n
  first_after n = sym (made_take (book_of a) (apart a) (available a) n)

  pub first_count : (n : ℕ) → length (pairs_after a n) ≡ min n (length (all_pairs a))
  first_count n = ap length (sym (first_after n)) ∙ length-take n (all_pairs a)

  -- As many pairs are the same pairs, and leave the same contracts in each row.
  pub after_same : (m n : ℕ) → length (pairs_after a m) ≡ length (pairs_after a n) → pairs_after a m ≡ pairs_after a n
  after_same m n e =
      sym (first_after m)
      ∙ take_same (all_pairs a) m n (ap length (first_after m) ∙ e ∙ sym (ap length (first_after n)))
      ∙ first_after n

  pub left_same : (m n r : ℕ) → pairs_after a m ≡ pairs_after a n → contracts_after a m r ≡ contracts_after a n r
  left_same m n r e =
      omega (
        arith,
        made_left (book_of a) (available a) m r,
        made_left (book_of a) (available a) n r,
        ap (λ (l : List Made). sum_over (named r) l) e,
      )

  -- The pairs after a call: those there were and those that it makes.
  pub more_count : (count allowance : ℕ) → count ≤ length (all_pairs a)
      → length (pairs_after a (count + allowance)) ≡ count + made_of a count allowance
  more_count count allowance h = omega (arith, first_count (count + allowance))

  -- The amount is the same after as many pairs, and after all pairs it is the total.
  pub total_same : (m n : ℕ) → length (pairs_after a m) ≡ length (pairs_after a n) → total_after a m ≡ total_after a n
  total_same m n e =
      let pairs = after_same m n e in
      ap₂ (λ (l : List Made) (left : ℕ → ℕ). sum_over line_amount (pair_lines a l ++ left_lines a left a.positions) + premiums a)
      pairs (fun_ext (λ r. ap (λ (x : ℕ). x + (a.position_at r).blocked) (left_same m n r pairs)))

  pub total_all : (n : ℕ) → length (all_pairs a) ≤ n → total_after a n ≡ total a
  total_all n h = total_same n a.positions (omega (arith, first_count n)) ∙ sym (total_is a)

  -- There are no more pairs than rows.
  pub pairs_fewer : length (all_pairs a) ≤ a.positions
  pairs_fewer = made_count (book_of a) a.positions (available a)

-- The answers, and the list, by the reading.
module _ (b : List ℕ) (out : List Line) (count : ℕ) where
  pub pair_read : (allowance : ℕ) (x : Result Layout Refused) → file_read b ≡ x → pair_answer b out count allowance ≡ pair_for_file b out count allowance x
  unfolding pair_answer
  pair_read allowance x r = ap (pair_for_file b out count allowance) r

  pub list_read : (allowance : ℕ) (x : Result Layout Refused) → file_read b ≡ x
      → list_paired b out count allowance ≡ list_for b out count x (pair_for_file b out count allowance x)
  unfolding list_paired pair_answer
  list_read allowance x r = ap (λ (y : Result Layout Refused). list_for b out count y (pair_for_file b out count allowance y)) r

  pub amount_read : (x : Result Layout Refused) → file_read b ≡ x → amount_so_far b out count ≡ amount_for_list b out count x
  unfolding amount_so_far
  amount_read x r = ap (amount_for_list b out count) r

-- The three ways through the checks after the reading: 12, 18, neither.
module _ (a : Account) (out : List Line) (count : ℕ) where
  pub fault_short : length out < entries_for a.positions → instalment_fault a out count ≡ Err ListTooShort
  unfolding instalment_fault refuse
  fault_short h = rw (lt-ltb (length out) (entries_for a.positions) h)

  pub fault_18 : entries_for a.positions ≤ length out → not_first_pairs a out count ≡ true → instalment_fault a out count ≡ Err NotFirstPairs
  unfolding instalment_fault refuse
  fault_18 h e = rw (le-ltb (length out) (entries_for a.positions) h, e)

  pub fault_none : entries_for a.positions ≤ length out → not_first_pairs a out count ≡ false → instalment_fault a out count ≡ clean
  unfolding instalment_fault refuse
  fault_none h e = rw (le-ltb (length out) (entries_for a.positions) h, e)
