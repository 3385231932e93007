-- What a call of the pairing in instalments has worked out, and whether the list begins with its lines, make what the operation
-- promises: over plain lists and numbers.
-- Assumes nothing.
use Prim.Native.Nat.{ℕ, ◌+◌, ◌*◌, ◌≤◌}
use mathlib.Core.Bool.{Bool, true, false, cond, not, ◌||◌}
use mathlib.Core.List.{List, ◌++◌, append_assoc}
use mathlib.Core.Logic.{◌⊎◌, inl, inr}
use mathlib.Core.Path.{◌≡◌, refl, sym, ap, subst, ◌∙◌}
use native.Mathlib.Nat.{add-zero}
use native.Mathlib.Omega.{arith}
use lib.Dec.{ltb}
use lib.ListN.{drop, length, take}
use lib.Seq.{drop_at, take_at}
use borrow.Author.Tests.{le-ltb, ltb-false, ltb-true}
use Rattle.instalments.specs.Ready.{AmountReady, PairsReady, Ready, amount_for, call_lines, end, pairs_for, pairs_of_file, reach, ready_by, start}
use Rattle.lent.proofs.EntryLaws.{written_none}
use Rattle.lent.specs.Entries.{entries_written}
use Rattle.lines.proofs.LinesHeld.{take-lines}
use Rattle.lines.specs.LineNumbers.{lines_from, most_numbers, most_pair_numbers, numbers_per_line}
use Rattle.rules.proofs.InstalmentAnswers.{first_length, first_more}
use Rattle.rules.proofs.InstalmentLaws.{amount_read, fault_18, fault_none, fault_short, list_read, pair_read}
use Rattle.rules.specs.File.{Account, account_of}
use Rattle.rules.specs.Instalments.{all_pairs, amount_so_far, amount_unless, begins_with, first_pairs, instalment_fault, list_for, list_paired, made_of, next_pairs, not_first_pairs, pair_answer, paired_unless}
use Rattle.rules.specs.Limits.{most_positions}
use Rattle.rules.specs.Lines.{entries_for, total_after}
use Rattle.rules.specs.Refusals.{clean, file_read, refused_at}
use Rattle.rules.specs.declared.Layout.{Layout}
use Rattle.rules.specs.declared.Line.{Line}
use Rattle.rules.specs.declared.Refusal.{Refusal}
use Rattle.rules.specs.declared.Refusal.TheVariants.{ListTooShort, NotFirstPairs}
use Rattle.serpentgleam.specs.InstalmentNumbers.{told_numbers}
use Rattle.serpentgleam.specs.MarginNumbers.{answer_numbers}
use Rattle.std.specs.Prelude.{Result, Ok, Err}
use Rattle.rules.specs.declared.Refused.{Refused}
use Rattle.instalments.specs.declared.CallLines.{CallLines}

-- Lines are written from where they must stand up to where there are some.
end_between : (r : Result CallLines Refused) (same : Bool) → start r ≤ reach r → (start r ≤ end r same) × (end r same ≤ reach r)
end_between (Ok lines) true h = (h, omega arith)
end_between (Ok lines) false h = (omega arith, h)
end_between (Err refusal) same h = (omega arith, omega arith)

-- An account's pairs fit into the numbers of its pairs, and into those of all its lines.
pub in_pairs : numbers_per_line * most_positions ≤ most_pair_numbers
in_pairs = omega arith

pub in_lines : numbers_per_line * most_positions ≤ most_numbers
in_lines = omega arith

-- The lines compared and the lines written stand in the list and in the numbers.
module _ {size : ℕ} (enough : numbers_per_line * most_positions ≤ size) (b : List ℕ) (ys : List Line) (numbers : List ℕ) (is r : Result CallLines Refused) (ready : Ready size b (length ys) numbers is r) (there : ℕ) (e : there ≡ start r) where
  pub compared_fit : (there ≤ length ys) × (numbers_per_line * there ≤ length numbers)
  compared_fit =
      (omega (arith, e, ready.order, ready.reach_most), omega (arith, e, ready.order, ready.reach_small, ready.numbers_length, enough))

  pub written_fit : (same : Bool) (then : ℕ) → then ≡ end r same → (there ≤ then) × (then ≤ length ys) × (numbers_per_line * then ≤ length numbers)
  written_fit same then e' =
      let k = end_between r same ready.order in
      (omega (arith, e, e', k), omega (arith, e', k, ready.reach_most), omega (arith, e', k, ready.reach_small, ready.numbers_length, enough))

-- The lines of the first pairs, of the count that must stand in the list and of those made.
first_lines : (a : Account) (numbers : List ℕ) (count made : ℕ) → count + made ≤ length (all_pairs a) → lines_from numbers (count + made) ≡ first_pairs a (count + made)
    → lines_from numbers count ≡ first_pairs a count
first_lines a numbers count made h lines =
    sym (take-lines numbers count (count + made) (omega arith))
    ∙ ap (take count) (lines ∙ first_more a count made)
    ∙ take_at (first_pairs a count) (next_pairs a count made) count (omega (arith, first_length a count))

-- An accepted file, by the account: the refusal that a call has worked out, or its lines and whether they stand in the list.
abbrev pub Refusing : Account → List Line → ℕ → Result CallLines Refused → Type 0
Refusing a ys count r = (w : Refusal) × (r ≡ refused_at w 0) × (instalment_fault a ys count ≡ Err w)

abbrev pub Comparing : Account → List Line → ℕ → ℕ → ℕ → Result CallLines Refused → Bool → Type 0
Comparing a ys count made value r same =
    (r ≡ call_lines count (count + made) value) × (count ≤ length (all_pairs a)) × (instalment_fault a ys count ≡ cond same clean (Err NotFirstPairs))

module _ (a : Account) (ys : List Line) (count made value : ℕ) (numbers : List ℕ) (r : Result CallLines Refused) (is : r ≡ ready_by a (length ys) count (count + made) value)
    (few : count ≤ length (all_pairs a) → count + made ≤ length (all_pairs a)) (lines : lines_from numbers (reach r) ≡ first_pairs a (reach r))
    (same : Bool) (alike : same ≡ begins_with (lines_from numbers (start r)) ys) where
  judged : entries_for a.positions ≤ length ys → r ≡ call_lines count (count + made) value → count ≤ length (all_pairs a)
      → instalment_fault a ys count ≡ cond same clean (Err NotFirstPairs)
  judged long e h = by_same same refl
    where
      own : lines_from numbers count ≡ first_pairs a count
      own = first_lines a numbers count made (few h) (subst (λ (x : Result CallLines Refused). lines_from numbers (reach x) ≡ first_pairs a (reach x)) e lines)

      begins : begins_with (first_pairs a count) ys ≡ same
      begins = sym (alike ∙ ap (λ (x : Result CallLines Refused). begins_with (lines_from numbers (start x)) ys) e ∙ ap (λ (l : List Line). begins_with l ys) own)

      tested : not_first_pairs a ys count ≡ not same
      tested = rw (le-ltb (length (all_pairs a)) count h) (ap not begins)

      by_same : (t : Bool) → same ≡ t → instalment_fault a ys count ≡ cond t clean (Err NotFirstPairs)
      by_same true q = fault_none a ys count long (tested ∙ ap not q)
      by_same false q = fault_18 a ys count long (tested ∙ ap not q)

  by_account : Refusing a ys count r ⊎ Comparing a ys count made value r same
  by_account = by_room (ltb (length ys) (entries_for a.positions)) refl
    where
      by_count : entries_for a.positions ≤ length ys → (t : Bool) → ltb (length (all_pairs a)) count ≡ t → Refusing a ys count r ⊎ Comparing a ys count made value r same
      by_count long true q =
          inl (NotFirstPairs, is ∙ rw (le-ltb (length ys) (entries_for a.positions) long, q), fault_18 a ys count long (ap (λ (t : Bool). t || not (begins_with (first_pairs a count) ys)) q))
      by_count long false q =
          let e : r ≡ call_lines count (count + made) value = is ∙ rw (le-ltb (length ys) (entries_for a.positions) long, q) in
          let h = ltb-false (length (all_pairs a)) count q in
          inr (e, h, judged long e h)

      by_room : (t : Bool) → ltb (length ys) (entries_for a.positions) ≡ t → Refusing a ys count r ⊎ Comparing a ys count made value r same
      by_room true q = inl (ListTooShort, is ∙ rw q, fault_short a ys count (ltb-true (length ys) (entries_for a.positions) q))
      by_room false q = by_count (ltb-false (length ys) (entries_for a.positions) q) (ltb (length (all_pairs a)) count) refl

-- The numbers told and the list afterwards, by the account.
module _ (a : Account) (ys : List Line) (count made value : ℕ) (numbers : List ℕ) (r : Result CallLines Refused) (lines : lines_from numbers (reach r) ≡ first_pairs a (reach r)) (same : Bool) where
  pair_told : value ≡ made → Refusing a ys count r ⊎ Comparing a ys count made value r same
      → told_numbers r same ≡ answer_numbers (paired_unless (instalment_fault a ys count) made)
  pair_told v (inl (w, e, q)) = rw (e, q)
  pair_told v (inr (e, h, q)) = rw (e, q) (by_same same)
    where
      by_same : (t : Bool) → told_numbers (call_lines count (count + made) value) t ≡ answer_numbers (paired_unless (cond t clean (Err NotFirstPairs)) made)
      by_same true = rw v refl
      by_same false = refl

  amount_told : Refusing a ys count r ⊎ Comparing a ys count made value r same
      → told_numbers r same ≡ answer_numbers (amount_unless (instalment_fault a ys count) value)
  amount_told (inl (w, e, q)) = rw (e, q)
  amount_told (inr (e, h, q)) = rw (e, q) (by_same same)
    where
      by_same : (t : Bool) → told_numbers (call_lines count (count + made) value) t ≡ answer_numbers (amount_unless (cond t clean (Err NotFirstPairs)) value)
      by_same true = refl
      by_same false = refl

  -- The list after the answer: what was in it, and where the lines are compared and are the same the next ones in their place.
  list_told : (b : List ℕ) (l : Layout) → a ≡ account_of b l → Refusing a ys count r ⊎ Comparing a ys count made value r same
      → entries_written numbers (start r) (end r same) ys ≡ list_for b ys count (Ok l) (paired_unless (instalment_fault a ys count) made)
  unfolding entries_written
  list_told b l is (inl (w, e, q)) = rw (e, q) (written_none numbers 0 ys)
  list_told b l is (inr (e, h, q)) = rw (e, q) (by_same same)
    where
      own : lines_from numbers (count + made) ≡ first_pairs a (count + made)
      own = subst (λ (x : Result CallLines Refused). lines_from numbers (reach x) ≡ first_pairs a (reach x)) e lines

      by_same : (t : Bool) → entries_written numbers count (end (call_lines count (count + made) value) t) ys
          ≡ list_for b ys count (Ok l) (paired_unless (cond t clean (Err NotFirstPairs)) made)
      by_same true =
          ap (λ (x : List Line). take count ys ++ drop count (x ++ drop (count + made) ys)) (own ∙ first_more a count made)
          ∙ ap (λ (x : List Line). take count ys ++ drop count x) (append_assoc (first_pairs a count) (next_pairs a count made) (drop (count + made) ys))
          ∙ ap (λ (x : List Line). take count ys ++ x)
          (drop_at (first_pairs a count) (next_pairs a count made ++ drop (count + made) ys) count (omega (arith, first_length a count)))
          ∙ ap (λ (x : Account). take count ys ++ (next_pairs x count made ++ drop (count + made) ys)) is
      by_same false = written_none numbers count ys

-- What the two operations promise.
module _ (b : List ℕ) (ys : List Line) (count : ℕ) (numbers : List ℕ) (r : Result CallLines Refused) (same : Bool) (alike : same ≡ begins_with (lines_from numbers (start r)) ys) where
  module _ (allowance : ℕ) (ready : PairsReady b (length ys) count allowance numbers r) where
    module _ (l : Layout) (e : file_read b ≡ Ok l) where
      abbrev a : Account
      a = account_of b l

      lines : lines_from numbers (reach r) ≡ first_pairs a (reach r)
      lines = ready.lines_are ∙ ap (λ (x : Result Layout Refused). pairs_of_file b x (reach r)) e

      few : count ≤ length (all_pairs a) → count + made_of a count allowance ≤ length (all_pairs a)
      few h = omega arith

      pub found : Refusing a ys count r ⊎ Comparing a ys count (made_of a count allowance) (made_of a count allowance) r same
      found =
          by_account a ys count (made_of a count allowance) (made_of a count allowance) numbers r
          (ready.ready_is ∙ ap (pairs_for b (length ys) count allowance) e) few lines same alike

    pub pairs_told_lem : told_numbers r same ≡ answer_numbers (pair_answer b ys count allowance)
    pairs_told_lem = by_reading (file_read b) refl
      where
        by_reading : (x : Result Layout Refused) → file_read b ≡ x → told_numbers r same ≡ answer_numbers (pair_answer b ys count allowance)
        by_reading (Err refusal) e =
            ap (λ (c : Result CallLines Refused). told_numbers c same) (ready.ready_is ∙ ap (pairs_for b (length ys) count allowance) e)
            ∙ sym (ap answer_numbers (pair_read b ys count allowance (Err refusal) e))
        by_reading (Ok l) e =
            pair_told (account_of b l) ys count (made_of (account_of b l) count allowance) (made_of (account_of b l) count allowance) numbers r (lines l e) same refl (found l e)
            ∙ sym (ap answer_numbers (pair_read b ys count allowance (Ok l) e))

    pub pairs_written : entries_written numbers (start r) (end r same) ys ≡ list_paired b ys count allowance
    pairs_written = by_reading (file_read b) refl
      where
        by_reading : (x : Result Layout Refused) → file_read b ≡ x → entries_written numbers (start r) (end r same) ys ≡ list_paired b ys count allowance
        by_reading (Err refusal) e =
            ap (λ (c : Result CallLines Refused). entries_written numbers (start c) (end c same) ys) (ready.ready_is ∙ ap (pairs_for b (length ys) count allowance) e)
            ∙ written_none numbers 0 ys
            ∙ sym (list_read b ys count allowance (Err refusal) e)
        by_reading (Ok l) e =
            list_told (account_of b l) ys count (made_of (account_of b l) count allowance) (made_of (account_of b l) count allowance) numbers r (lines l e) same b l refl (found l e)
            ∙ sym (list_read b ys count allowance (Ok l) e)

  pub amount_so_far_lem : AmountReady b (length ys) count numbers r → told_numbers r same ≡ answer_numbers (amount_so_far b ys count)
  amount_so_far_lem ready = by_reading (file_read b) refl
    where
      by_reading : (x : Result Layout Refused) → file_read b ≡ x → told_numbers r same ≡ answer_numbers (amount_so_far b ys count)
      by_reading (Err refusal) e =
          ap (λ (c : Result CallLines Refused). told_numbers c same) (ready.ready_is ∙ ap (amount_for b (length ys) count) e)
          ∙ sym (ap answer_numbers (amount_read b ys count (Err refusal) e))
      by_reading (Ok l) e =
          let a : Account = account_of b l in
          let lines : lines_from numbers (reach r) ≡ first_pairs a (reach r) = ready.lines_are ∙ ap (λ (x : Result Layout Refused). pairs_of_file b x (reach r)) e in
          let is : r ≡ ready_by a (length ys) count (count + 0) (total_after a count) =
          ready.ready_is ∙ ap (amount_for b (length ys) count) e ∙ ap (λ (last : ℕ). ready_by a (length ys) count last (total_after a count)) (sym (add-zero count)) in
          amount_told a ys count 0 (total_after a count) numbers r lines same
          (by_account a ys count 0 (total_after a count) numbers r is (λ h. omega arith) lines same alike)
          ∙ sym (ap answer_numbers (amount_read b ys count (Ok l) e))
