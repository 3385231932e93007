-- What a call that takes pairs apart has worked out, and whether the list begins with its lines, make what the operation
-- promises: over plain lists and numbers.
-- Assumes nothing.
use Prim.Native.Nat.{ℕ, ◌+◌, ◌-◌, ◌*◌, ◌≤◌}
use mathlib.Core.Bool.{Bool, true, false, cond}
use mathlib.Core.List.{List, ◌++◌}
use mathlib.Core.Logic.{◌⊎◌, inl, inr}
use mathlib.Core.Path.{◌≡◌, refl, sym, ap, ap₂, ◌∙◌}
use native.Mathlib.Omega.{arith}
use lib.Dec.{ltb}
use lib.ListN.{drop, length, take}
use borrow.Author.Tests.{ltb-false, ltb-true}
use Rattle.instalments.specs.Ready.{PairsReady, apart_by, call_lines, kept_of, pairs_for, start}
use Rattle.lent.proofs.EntryLaws.{written_none}
use Rattle.lent.proofs.ZeroLines.{zeros_written}
use Rattle.lent.proofs.Zeros.{zeros, zeros_length}
use Rattle.lent.specs.Entries.{entries_written}
use Rattle.lines.specs.LineNumbers.{lines_from, most_pair_numbers, numbers_per_line}
use Rattle.rules.proofs.ApartLaws.{apart_read, fault_19, fault_alike, fault_no_19}
use Rattle.rules.proofs.ApartLists.{apart_leaves, apart_parts, left_count}
use Rattle.rules.specs.File.{Account, account_of}
use Rattle.rules.specs.Instalments.{begins_with, instalment_fault, made_of}
use Rattle.rules.specs.Refusals.{clean, file_read, refused_at}
use Rattle.rules.specs.TakingApart.{apart_answer, apart_fault, apart_unless, list_apart, zero_entries}
use Rattle.rules.specs.declared.Layout.{Layout}
use Rattle.rules.specs.declared.Line.{Line}
use Rattle.rules.specs.declared.Refusal.TheVariants.{AboveCount, NotFirstPairs}
use Rattle.serpentgleam.proofs.Instalments.{Comparing, Refusing, found}
use Rattle.std.specs.Prelude.{Result, Ok, Err}
use Rattle.rules.specs.declared.Refused.{Refused}
use Rattle.instalments.specs.declared.CallLines.{CallLines}

-- An accepted file: what is answered by the account; and k are taken apart only where the lines compared are count.
module _ (a : Account) (ys : List Line) (count k made value : ℕ) (r : Result CallLines Refused) (same : Bool) where
  answer_by_lem : Refusing a ys count r ⊎ Comparing a ys count made value r same → apart_by r same k ≡ apart_unless (apart_fault a ys count k) (count - k)
  answer_by_lem (inl (w, e, q)) = rw (e, fault_alike a ys count k w q)
  answer_by_lem (inr (e, h, q)) = rw e (by_same same q)
    where
      by_k : instalment_fault a ys count ≡ clean → (t : Bool) → ltb count k ≡ t
          → cond t (refused_at AboveCount 0) (Ok (count - k)) ≡ apart_unless (apart_fault a ys count k) (count - k)
      by_k clean true t = rw (fault_19 a ys count k clean (ltb-true count k t))
      by_k clean false t = rw (fault_no_19 a ys count k clean (ltb-false count k t))

      by_same : (s : Bool) → instalment_fault a ys count ≡ cond s clean (Err NotFirstPairs)
          → apart_by (call_lines count (count + made) value) s k ≡ apart_unless (apart_fault a ys count k) (count - k)
      by_same true f = by_k f (ltb count k) refl
      by_same false f = rw (fault_alike a ys count k NotFirstPairs f)

  start_by : (left : ℕ) → apart_by r same k ≡ Ok left → Refusing a ys count r ⊎ Comparing a ys count made value r same → start r ≡ count
  start_by left t (inl (w, e, q)) =
      let m = sym (ap (λ (x : Result CallLines Refused). apart_by x same k) e) ∙ t in
      let z : ◌≡◌ {A = ℕ} 0 1 = cc in
      absurd (omega arith)
  start_by left t (inr (e, h, q)) = ap start e

-- What the operation promises: `there` lines are compared, and `answer` is what `taken_apart` gives.
module _ (b : List ℕ) (ys : List Line) (count k : ℕ) (numbers : List ℕ) (r : Result CallLines Refused) (ready : PairsReady b (length ys) count 0 numbers r) (there : ℕ) (e : there ≡ start r)
    (same : Bool) (alike : same ≡ begins_with (lines_from numbers there) ys) (answer : Result ℕ Refused) (told : answer ≡ apart_by r same k) where
  -- An accepted file: a refusal, or lines that are compared.
  either : (l : Layout) → file_read b ≡ Ok l
      → Refusing (account_of b l) ys count r ⊎ Comparing (account_of b l) ys count (made_of (account_of b l) count 0) (made_of (account_of b l) count 0) r same
  either l q = found b ys count numbers r same (alike ∙ ap (λ (n : ℕ). begins_with (lines_from numbers n) ys) e) 0 ready l q

  pub apart_is : answer ≡ apart_answer b ys count k
  apart_is = told ∙ by_reading (file_read b) refl
    where
      by_reading : (x : Result Layout Refused) → file_read b ≡ x → apart_by r same k ≡ apart_answer b ys count k
      by_reading (Err refusal) q =
          ap (λ (c : Result CallLines Refused). apart_by c same k) (ready.ready_is ∙ ap (pairs_for b (length ys) count 0) q)
          ∙ sym (apart_read b ys count k (Err refusal) q)
      by_reading (Ok l) q =
          let made : ℕ = made_of (account_of b l) count 0 in
          answer_by_lem (account_of b l) ys count k made made r same (either l q) ∙ sym (apart_read b ys count k (Ok l) q)

  -- The lines compared are count, where k of them are taken apart.
  there_is : (left : ℕ) → answer ≡ Ok left → there ≡ count
  there_is left t = e ∙ by_reading (file_read b) refl
    where
      by_reading : (x : Result Layout Refused) → file_read b ≡ x → start r ≡ count
      by_reading (Err refusal) q =
          let m = sym (apart_read b ys count k (Err refusal) q) ∙ sym apart_is ∙ t in
          let z : ◌≡◌ {A = ℕ} 0 1 = cc in
          absurd (omega arith)
      by_reading (Ok l) q =
          let made : ℕ = made_of (account_of b l) count 0 in
          start_by (account_of b l) ys count k made made r same left (sym told ∙ t) (either l q)

  module _ (kept : ℕ) (e' : kept ≡ kept_of answer there) where
    -- The lines that stay are the first of those compared, which are in the list and in the zeros.
    pub apart_fit : (kept ≤ there) × (there ≤ length ys) × (numbers_per_line * there ≤ length (zeros most_pair_numbers))
    apart_fit =
        (go answer refl, omega (arith, e, ready.order, ready.reach_most), omega (arith, e, ready.order, ready.reach_small, zeros_length most_pair_numbers))
      where
        go : (x : Result ℕ Refused) → answer ≡ x → kept ≤ there
        go (Err refusal) t = let all : kept ≡ there = e' ∙ ap (λ (x : Result ℕ Refused). kept_of x there) t in omega (arith, all)
        go (Ok left) t =
            let is-left : kept ≡ left = e' ∙ ap (λ (x : Result ℕ Refused). kept_of x there) t in
            omega (arith, is-left, there_is left t, left_count b ys count k left (sym apart_is ∙ t))

    pub apart_written : entries_written (zeros most_pair_numbers) kept there ys ≡ list_apart b ys count k
    apart_written = go answer refl
      where
        go : (x : Result ℕ Refused) → answer ≡ x → entries_written (zeros most_pair_numbers) kept there ys ≡ list_apart b ys count k
        go (Err refusal) t =
            ap (λ (n : ℕ). entries_written (zeros most_pair_numbers) n there ys) (e' ∙ ap (λ (x : Result ℕ Refused). kept_of x there) t)
            ∙ written_none (zeros most_pair_numbers) there ys
            ∙ sym (apart_leaves b ys count k refusal.why refusal.row (sym apart_is ∙ t))
        go (Ok left) t =
            let few = left_count b ys count k left (sym apart_is ∙ t) in
            let removed : count - left ≡ k = omega (arith, few) in
            ap₂ (λ (m n : ℕ). entries_written (zeros most_pair_numbers) m n ys) (e' ∙ ap (λ (x : Result ℕ Refused). kept_of x there) t) (there_is left t)
            ∙ zeros_written most_pair_numbers left count ys (omega (arith, few))
            ∙ ap (λ (n : ℕ). take left ys ++ (zero_entries n ++ drop count ys)) removed
            ∙ sym (apart_parts b ys count k left (sym apart_is ∙ t))
