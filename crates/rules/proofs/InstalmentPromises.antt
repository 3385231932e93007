-- What document 02 [7] promises of pairing in instalments, over the bytes of every file: two theorems, each after the sentence
-- that it states, and one that joins them. The statements are in specs/Instalments.antt.
-- Assumes nothing.
use Prim.Native.Nat.{ℕ, ◌+◌, ◌≤◌, ◌<◌, min}
use mathlib.Core.List.{List, [], ◌∷◌, ◌++◌}
use mathlib.Core.Path.{◌≡◌, refl, sym, ap, ap₂, subst, ◌∙◌}
use native.Mathlib.Omega.{arith}
use lib.ListN.{drop, length, take, length-append, length-drop}
use lib.Seq.{drop-append-add, drop-drop, take_at}
use Rattle.rules.proofs.AccountCover.{PairsCovered, RowsCovered, covered_after}
use Rattle.rules.proofs.BlockedRows.{BlockedFits, blocked_fits}
use Rattle.rules.proofs.Demand3.{low_factors_enough, pairs_covered_long, rows_covered_long}
use Rattle.rules.proofs.InstalmentAnswers.{FirstPairs, first_length, pair_goes, so_far_goes, so_far_only}
use Rattle.rules.proofs.InstalmentLaws.{after_same, first_after, first_count, pairs_fewer, total_all, total_same}
use Rattle.rules.proofs.InstalmentLists.{list_is}
use Rattle.rules.proofs.LineLaws.{brought, left_quantities, sum_pairs}
use Rattle.rules.proofs.Most.{within_most_after}
use Rattle.rules.proofs.Rounds.{made_left}
use Rattle.rules.proofs.Sums.{sum_over-append}
use Rattle.rules.specs.File.{Account}
use Rattle.rules.specs.Instalments.{AfterAllowances, AllowancesDemand, CoverSoFar, HalfPaired, HalfPairedDemand, HalfPairedLongDemand, PairedList, after_call, after_calls, all_pairs, begun, first_pairs, list_paired, made_of, pair_answer, pairs_told, remainders}
use Rattle.rules.specs.Lines.{entries_for, left_with_blocked, line_amount, pair_lines, sum_over, total_after}
use Rattle.rules.specs.Pairs.{Made, available, book_of, pairs_after}
use Rattle.rules.specs.Promises.{left_quantity, line_brings_in, pair_quantity}
use Rattle.rules.specs.Refusals.{accepted, meaning}
use Rattle.rules.specs.declared.Line.{Line}
use Rattle.std.specs.Prelude.{Result, Ok}
use Rattle.rules.specs.declared.Refused.{Refused}

-- As many pairs have the same lines.
first_same : (a : Account) (m n : ℕ) → min m (length (all_pairs a)) ≡ min n (length (all_pairs a)) → first_pairs a m ≡ first_pairs a n
first_same a m n e =
    ap (pair_lines a) (first_after a m ∙ after_same a m n (first_count a m ∙ e ∙ sym (first_count a n)) ∙ sym (first_after a n))

module _ (b : List ℕ) (a : Account) (e : meaning b ≡ accepted a) (out : List Line) (long : entries_for a.positions ≤ length out) where
  -- What calls with allowances that add up to n leave.
  record Reached (n : ℕ) (s : PairedList) : Type 0 where
    count_is : s.count ≡ min n (length (all_pairs a))
    list_is : s.list ≡ first_pairs a n ++ drop s.count out

  first_is : (n : ℕ) (s : PairedList) → Reached n s → length (first_pairs a n) ≡ s.count
  first_is n s r = omega (arith, first_length a n, r.count_is)

  -- The list is as long as it was, and the first pairs stand in it: so no call is refused.
  room_is : (n : ℕ) (s : PairedList) → Reached n s → entries_for a.positions ≤ length s.list
  room_is n s r =
      omega (
        arith,
        ap length r.list_is,
        length-append (first_pairs a n) (drop s.count out),
        length-drop s.count out,
        first_is n s r,
        r.count_is,
        pairs_fewer a,
        long,
      )

  stand_is : (n : ℕ) (s : PairedList) → Reached n s → FirstPairs a s.list s.count
  stand_is n s r =
      record {
        count_most = omega (arith, r.count_is);
        lines_are =
            ap (take s.count) r.list_is
            ∙ take_at (first_pairs a n) _ s.count (first_is n s r)
            ∙ first_same a n s.count (omega (arith, r.count_is));
      }

  next_is : (n : ℕ) (s : PairedList) → Reached n s → (allowance : ℕ)
      → pair_answer b s.list s.count allowance ≡ Ok (made_of a s.count allowance)
  next_is n s r allowance = pair_goes b a e s.list s.count (room_is n s r) (stand_is n s r) allowance

  -- One call more.
  reach_more : (n allowance : ℕ) (s : PairedList) → Reached n s → Reached (n + allowance) (after_call b allowance s)
  reach_more n allowance s r =
      subst (λ (x : Result ℕ Refused). Reached (n + allowance) (record { list = list_paired b s.list s.count allowance; count = s.count + pairs_told x })) (sym q)
      (record {
        count_is = omega (arith, r.count_is);
        list_is =
            list_is b a e s.list s.count allowance made q
            ∙ ap₂ (λ (x y : List Line). x ++ y) (first_same a (s.count + made) (n + allowance) (omega (arith, r.count_is))) rest;
      })
    where
      made : ℕ
      made = made_of a s.count allowance

      q : pair_answer b s.list s.count allowance ≡ Ok made
      q = next_is n s r allowance

      rest : drop (s.count + made) s.list ≡ drop (s.count + made) out
      rest =
          ap (drop (s.count + made)) r.list_is
          ∙ ap (λ (k : ℕ). drop (k + made) (first_pairs a n ++ drop s.count out)) (sym (first_is n s r))
          ∙ drop-append-add (first_pairs a n) (drop s.count out) made
          ∙ drop-drop made s.count out

  reach_all : (allowances : List ℕ) (n : ℕ) (s : PairedList) → Reached n s
      → Reached (n + sum_over (λ x. x) allowances) (after_calls b allowances s)
  unfolding sum_over after_calls
  reach_all [] n s r = subst (λ (k : ℕ). Reached k s) (omega arith) r
  reach_all (x ∷ rest) n s r =
      subst (λ (k : ℕ). Reached k (after_calls b rest (after_call b x s))) (omega arith)
      (reach_all rest (n + x) (after_call b x s) (reach_more n x s r))

  begin : Reached 0 (begun out)
  unfolding pair_lines
  begin = record { count_is = omega arith; list_is = refl }

  promised : (n : ℕ) (s : PairedList) → Reached n s → AfterAllowances b a out n s
  promised n s r =
      record {
        count_is = r.count_is;
        list_is = r.list_is;
        next_is = next_is n s r;
        amount_is =
            so_far_goes b a e s.list s.count (room_is n s r) (stand_is n s r)
            ∙ ap Ok (total_same a s.count n (omega (arith, first_count a s.count, first_count a n, r.count_is)));
      }

-- "For every list of allowances, begun with no pair lines, the pairs after it are the first ones of the full pairing, as many
-- as the allowances add up to or all."
pub allowances : (b : List ℕ) → AllowancesDemand b
allowances b a e out long l =
    let n = sum_over (λ (x : ℕ). x) l in
    let s = after_calls b l (begun out) in
    promised b a e out long n s
    (subst (λ (k : ℕ). Reached b a e out long k s) (omega arith) (reach_all b a e out long l 0 (begun out) (begin b a e out long)))

-- Sums over the lines of the first pairs and over the remainders, of an account after n rounds.
module _ (a : Account) (n : ℕ) where
  first_sum : (f : Line → ℕ) → sum_over f (first_pairs a n) ≡ sum_over f (pair_lines a (pairs_after a n))
  first_sum f = ap (λ (l : List Made). sum_over f (pair_lines a l)) (first_after a n)

  -- The contracts of the pairs that name a row, and of its remainder.
  row_contracts : (r : ℕ) → r < a.positions → (a.position_at r).blocked ≤ (a.position_at r).q
      → sum_over (pair_quantity r) (first_pairs a n) + sum_over (left_quantity r) (remainders a n) ≡ (a.position_at r).q
  unfolding pair_lines
  row_contracts r there most =
      omega (
        arith,
        first_sum (pair_quantity r),
        sum_pairs a (pair_quantity r) (pairs_after a n),
        left_quantities a [] (left_with_blocked a n) a.positions r there,
        made_left (book_of a) (available a) n r,
        most,
      )

  -- What the pairs that name a row take, and the number blocked.
  row_unblocked : (r : ℕ) → (a.position_at r).blocked ≤ (a.position_at r).q
      → sum_over (pair_quantity r) (first_pairs a n) + (a.position_at r).blocked ≤ (a.position_at r).q
  row_unblocked r most =
      omega (arith, first_sum (pair_quantity r), sum_pairs a (pair_quantity r) (pairs_after a n), made_left (book_of a) (available a) n r)

  -- The amount after the first pairs, and what they bring in.
  first_covered : BlockedFits a → RowsCovered a → PairsCovered a → CoverSoFar a (first_pairs a n) (total_after a n)
  first_covered fits rows pairs path each =
      omega (
        arith,
        covered_after a n path each fits rows pairs,
        brought a (pairs_after a n) (left_with_blocked a n) a.positions path,
        sum_pairs a (line_brings_in a path) (pairs_after a n),
        first_sum (line_brings_in a path),
      )

-- The amount that is answered for a list with `count` pair lines, with any fb and under the proviso of document 02 [11].
pub half_paired_long : (b : List ℕ) → HalfPairedLongDemand b
half_paired_long b a e out count x q none path each =
    let known = so_far_only b a e out count x q in
    omega (
      arith,
      first_covered a count (blocked_fits b a e) (rows_covered_long b a e none) (pairs_covered_long b a e) path each,
      ap (sum_over (line_brings_in a path)) known.1.lines_are,
      known.2,
    )

-- "A half-paired account must be covered on every path too."
pub half_paired : (b : List ℕ) → HalfPairedDemand b
half_paired b a e out count x q =
    let known = so_far_only b a e out count x q in
    let stand = known.1.lines_are in
    let is = known.2 in
    let fits = blocked_fits b a e in
    record {
      pairs_are = stand;
      amount_is =
          omega (
            arith,
            is,
            sum_over-append line_amount (pair_lines a (pairs_after a count)) (remainders a count),
            first_sum a count line_amount,
            ap (sum_over line_amount) stand,
          );
      amount_most = omega (arith, is, within_most_after b a e count);
      all_paired = λ all. is ∙ total_all a count (omega (arith, all));
      covered = λ factors. half_paired_long b a e out count x q (low_factors_enough b a e factors);
      contracts = λ r there.
          ap (λ (l : List Line). sum_over (pair_quantity r) l + sum_over (left_quantity r) (remainders a count)) stand
          ∙ row_contracts a count r there (fits.most r there);
      unblocked = λ r there.
          omega (arith, ap (sum_over (pair_quantity r)) stand, row_unblocked a count r (fits.most r there));
    }

-- So it is after every list of allowances, with the amount that is then told.
pub after_allowances : (b : List ℕ) (a : Account) → meaning b ≡ accepted a → (out : List Line) → entries_for a.positions ≤ length out → (l : List ℕ)
    → let s = after_calls b l (begun out) in
    HalfPaired a (take s.count s.list) s.count (total_after a (sum_over (λ x. x) l))
after_allowances b a e out long l =
    let s = after_calls b l (begun out) in
    half_paired b a e s.list s.count (total_after a (sum_over (λ (x : ℕ). x) l)) (allowances b a e out long l).amount_is
