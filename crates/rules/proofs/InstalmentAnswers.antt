-- What the two calls of document 02 [7] answer, for every file, list, count and allowance: the laws that a client can cite.
-- The calls' contracts say that they answer `pair_answer`, `list_paired` and `amount_so_far`; these laws say what the first and
-- the last are, `InstalmentLists` what the list holds.
-- Assumes nothing.
use Prim.Native.Nat.{ℕ, ◌+◌, ◌≤◌, ◌<◌, min}
use mathlib.Core.Bool.{Bool, true, false, not, true≢false}
use mathlib.Core.List.{List, ◌++◌}
use mathlib.Core.Logic.{◌⊎◌, inl, inr}
use mathlib.Core.Path.{◌≡◌, refl, sym, ap, ap₂, ◌∙◌}
use native.Mathlib.Omega.{arith}
use borrow.Author.Tests.{le-ltb, ltb-false, not-false}
use lib.Dec.{ltb}
use lib.ListN.{length, take, length-take}
use lib.Seq.{take-add}
use Rattle.rules.proofs.Answers.{accepted_read, refused_read}
use Rattle.rules.proofs.FileNumbers.{file_number}
use Rattle.rules.proofs.InstalmentLaws.{amount_read, begins_take, fault_18, fault_none, fault_short, pair_read, pairs_fewer, take_begins, total_all}
use Rattle.rules.proofs.LineLaws.{length-pair_lines, pair_lines-append}
use Rattle.rules.proofs.NoPositions.{no_total}
use Rattle.rules.proofs.Tests.{both_fail, lt_or_ge, neither}
use Rattle.rules.specs.File.{Account, account_of, layout}
use Rattle.rules.specs.Instalments.{all_pairs, amount_so_far, amount_unless, begins_with, first_pairs, instalment_fault, made_of, next_pairs, not_first_pairs, pair_answer, paired_unless}
use Rattle.rules.specs.Lines.{entries_for, pair_lines, total_after}
use Rattle.rules.specs.Refusals.{Fault, accepted, clean, file_read, meaning, meant, number, refused, refused_at}
use Rattle.rules.specs.declared.Line.{Line}
use Rattle.rules.specs.declared.Refusal.{Refusal}
use Rattle.rules.specs.declared.Refusal.TheVariants.{ListTooShort, NotFirstPairs}
use Rattle.std.specs.Prelude.{Result, Ok, Err}
use Rattle.rules.specs.declared.Refused.{Refused}
use Rattle.rules.specs.declared.Layout.{Layout}
use Rattle.rules.proofs.SameAnswers.{same_refused}

-- The first `count` entries of a list are the account's first pairs: it has as many pairs, and these are their lines.
pub record FirstPairs (a : Account) (out : List Line) (count : ℕ) : Type 0 where
  pub count_most : count ≤ length (all_pairs a)
  pub lines_are : take count out ≡ first_pairs a count

-- How many lines the first n pairs have.
pub first_length : (a : Account) (n : ℕ) → length (first_pairs a n) ≡ min n (length (all_pairs a))
first_length a n = length-pair_lines a (take n (all_pairs a)) ∙ length-take n (all_pairs a)

-- The lines of the first pairs, and of the next ones after them.
pub first_more : (a : Account) (count n : ℕ) → first_pairs a (count + n) ≡ first_pairs a count ++ next_pairs a count n
first_more a count n = ap (pair_lines a) (take-add count n (all_pairs a)) ∙ pair_lines-append a (take count (all_pairs a)) _

-- Every list has no pair lines at the start.
pub none_yet : (a : Account) (out : List Line) → FirstPairs a out 0
unfolding pair_lines
none_yet a out = record { count_most = omega arith; lines_are = refl }

-- The three ways that a call for an accepted file goes.
pub data Way (a : Account) (out : List Line) (count : ℕ) : Type 0 where
  too_short : length out < entries_for a.positions → Way a out count
  not_first : entries_for a.positions ≤ length out → (FirstPairs a out count → ⊥) → Way a out count
  goes_on : entries_for a.positions ≤ length out → FirstPairs a out count → Way a out count

module _ (a : Account) (out : List Line) (count : ℕ) where
  -- 18's test does not hold where the first pairs stand in the list, and only there.
  first_pass : FirstPairs a out count → not_first_pairs a out count ≡ false
  first_pass f =
      let long : length (first_pairs a count) ≡ count = omega (arith, first_length a count, f.count_most) in
      both_fail (ltb (length (all_pairs a)) count) (not (begins_with (first_pairs a count) out))
      (le-ltb (length (all_pairs a)) count f.count_most)
      (ap not (take_begins (first_pairs a count) out (ap (λ (n : ℕ). take n out) long ∙ f.lines_are)))

  pass_first : not_first_pairs a out count ≡ false → FirstPairs a out count
  pass_first e =
      let tests = neither (ltb (length (all_pairs a)) count) (not (begins_with (first_pairs a count) out)) e in
      let most = ltb-false (length (all_pairs a)) count tests.0 in
      let long : count ≡ length (first_pairs a count) = omega (arith, first_length a count) in
      record {
        count_most = most;
        lines_are =
            ap (λ (n : ℕ). take n out) long
            ∙ begins_take (first_pairs a count) out (not-false (begins_with (first_pairs a count) out) tests.1);
      }

  lines_fault : entries_for a.positions ≤ length out → (FirstPairs a out count → ⊥) → instalment_fault a out count ≡ Err NotFirstPairs
  lines_fault long wrong = go (not_first_pairs a out count) refl
    where
      go : (t : Bool) → not_first_pairs a out count ≡ t → instalment_fault a out count ≡ Err NotFirstPairs
      go true e = fault_18 a out count long e
      go false e = absurd (wrong (pass_first e))

  no_fault : entries_for a.positions ≤ length out → FirstPairs a out count → instalment_fault a out count ≡ clean
  no_fault long f = fault_none a out count long (first_pass f)

  pub way : Way a out count
  way = by_room (lt_or_ge (length out) (entries_for a.positions))
    where
      by_room : (length out < entries_for a.positions) ⊎ (entries_for a.positions ≤ length out) → Way a out count
      by_room (inl short) = too_short short
      by_room (inr long) = by_lines (not_first_pairs a out count) refl
        where
          by_lines : (t : Bool) → not_first_pairs a out count ≡ t → Way a out count
          by_lines false e = goes_on long (pass_first e)
          by_lines true e = not_first long (λ f. true≢false (sym e ∙ first_pass f))

-- The answers for an accepted file.
module _ (b : List ℕ) (a : Account) (e : meaning b ≡ accepted a) (out : List Line) (count : ℕ) where
  pair_by : (allowance : ℕ) (x : Fault) → instalment_fault a out count ≡ x
      → pair_answer b out count allowance ≡ paired_unless x (made_of a count allowance)
  pair_by allowance x q =
      let k = accepted_read b a e in
      pair_read b out count allowance (Ok (layout b)) k.0
      ∙ ap (λ (y : Account). paired_unless (instalment_fault y out count) (made_of y count allowance)) (sym k.1)
      ∙ ap (λ (y : Fault). paired_unless y (made_of a count allowance)) q

  so_far_by : (x : Fault) → instalment_fault a out count ≡ x → amount_so_far b out count ≡ amount_unless x (total_after a count)
  so_far_by x q =
      let k = accepted_read b a e in
      amount_read b out count (Ok (layout b)) k.0
      ∙ ap (λ (y : Account). amount_unless (instalment_fault y out count) (total_after y count)) (sym k.1)
      ∙ ap (λ (y : Fault). amount_unless y (total_after a count)) q

  -- A list of at least 2 × p entries in which the first pairs stand: the next pairs are made, as many as are allowed or all; and
  -- the amount is that after so many pairs.
  pub pair_goes : entries_for a.positions ≤ length out → FirstPairs a out count → (allowance : ℕ)
      → pair_answer b out count allowance ≡ Ok (made_of a count allowance)
  pair_goes long f allowance = pair_by allowance clean (no_fault a out count long f)

  pub so_far_goes : entries_for a.positions ≤ length out → FirstPairs a out count → amount_so_far b out count ≡ Ok (total_after a count)
  so_far_goes long f = so_far_by clean (no_fault a out count long f)

  -- A shorter list: 12, row 0, whatever it holds.
  pub pair_short : length out < entries_for a.positions → (allowance : ℕ) → pair_answer b out count allowance ≡ refused_at ListTooShort 0
  pair_short short allowance = pair_by allowance (Err ListTooShort) (fault_short a out count short)

  pub so_far_short : length out < entries_for a.positions → amount_so_far b out count ≡ refused_at ListTooShort 0
  so_far_short short = so_far_by (Err ListTooShort) (fault_short a out count short)

  -- A list of at least 2 × p entries in which other lines stand: 18, row 0.
  pub pair_18 : entries_for a.positions ≤ length out → (FirstPairs a out count → ⊥) → (allowance : ℕ)
      → pair_answer b out count allowance ≡ refused_at NotFirstPairs 0
  pair_18 long wrong allowance = pair_by allowance (Err NotFirstPairs) (lines_fault a out count long wrong)

  pub so_far_18 : entries_for a.positions ≤ length out → (FirstPairs a out count → ⊥) → amount_so_far b out count ≡ refused_at NotFirstPairs 0
  so_far_18 long wrong = so_far_by (Err NotFirstPairs) (lines_fault a out count long wrong)

  -- The other way round: pairs are told, and an amount, only of a list of at least 2 × p entries in which the first pairs stand.
  pub pair_only : (allowance made : ℕ) → pair_answer b out count allowance ≡ Ok made
      → (entries_for a.positions ≤ length out) × FirstPairs a out count × (made ≡ made_of a count allowance)
  pair_only allowance made q = go (way a out count)
    where
      go : Way a out count → (entries_for a.positions ≤ length out) × FirstPairs a out count × (made ≡ made_of a count allowance)
      go (too_short h) = let z : ◌≡◌ {A = ℕ} 0 1 = cc (pair_short h allowance) in absurd (omega arith)
      go (not_first h w) = let z : ◌≡◌ {A = ℕ} 0 1 = cc (pair_18 h w allowance) in absurd (omega arith)
      go (goes_on h f) = let same : made ≡ made_of a count allowance = cc (pair_goes h f allowance) in (h, f, same)

  pub so_far_only : (x : ℕ) → amount_so_far b out count ≡ Ok x
      → (entries_for a.positions ≤ length out) × FirstPairs a out count × (x ≡ total_after a count)
  so_far_only x q = go (way a out count)
    where
      go : Way a out count → (entries_for a.positions ≤ length out) × FirstPairs a out count × (x ≡ total_after a count)
      go (too_short h) = let z : ◌≡◌ {A = ℕ} 0 1 = cc (so_far_short h) in absurd (omega arith)
      go (not_first h w) = let z : ◌≡◌ {A = ℕ} 0 1 = cc (so_far_18 h w) in absurd (omega arith)
      go (goes_on h f) = let same : x ≡ total_after a count = cc (so_far_goes h f) in (h, f, same)

-- Every file is accepted or refused.
abbrev FileWays : List ℕ → Type 0
FileWays b = ((a : Account) × (meaning b ≡ accepted a)) ⊎ ((w : Refusal) × (row : ℕ) × (file_read b ≡ refused_at w row))

file_ways : (b : List ℕ) → FileWays b
unfolding meaning
file_ways b = go (file_read b) refl
  where
    go : (x : Result Layout Refused) → file_read b ≡ x → FileWays b
    go (Ok l) q = inl (account_of b l, ap (meant b) q)
    go (Err refusal) q = inr (refusal.why, refusal.row, q)

never_refused : (b : List ℕ) → ((w : Refusal) (row : ℕ) → file_read b ≡ refused_at w row → ⊥) → (a : Account) × (meaning b ≡ accepted a)
never_refused b never = go (file_ways b)
  where
    go : FileWays b → (a : Account) × (meaning b ≡ accepted a)
    go (inl known) = known
    go (inr (w, row, r)) = absurd (never w row r)

-- Why a call is refused: the file is, with its number and row; or, with row 0, 12 where the list is too short for the account,
-- or 18 where other lines than its first pairs stand in it.
abbrev pub RefusedFor : List ℕ → List Line → ℕ → Refusal → ℕ → Type 0
RefusedFor b out count w row =
    (meaning b ≡ refused (number w) row)
    ⊎ ((a : Account) × (meaning b ≡ accepted a) × (row ≡ 0)
    × (((length out < entries_for a.positions) × (number w ≡ 12))
    ⊎ ((entries_for a.positions ≤ length out) × (FirstPairs a out count → ⊥) × (number w ≡ 18))))

module _ (b : List ℕ) (out : List Line) (count : ℕ) where
  -- A refused file: its number and row, whatever the list, the count and the allowance.
  pub pair_refused : (k row : ℕ) → meaning b ≡ refused k row → (allowance : ℕ)
      → (w : Refusal) × (number w ≡ k) × (pair_answer b out count allowance ≡ refused_at w row)
  pair_refused k row e allowance =
      let r = refused_read b k row e in
      (r.0, r.1, pair_read b out count allowance (refused_at r.0 row) r.2)

  pub so_far_refused : (k row : ℕ) → meaning b ≡ refused k row
      → (w : Refusal) × (number w ≡ k) × (amount_so_far b out count ≡ refused_at w row)
  so_far_refused k row e =
      let r = refused_read b k row e in
      (r.0, r.1, amount_read b out count (refused_at r.0 row) r.2)

  -- The two calls refuse alike.
  pub refused_alike : (w : Refusal) (row : ℕ) → amount_so_far b out count ≡ refused_at w row → (allowance : ℕ)
      → pair_answer b out count allowance ≡ refused_at w row
  refused_alike w row q allowance = go (file_read b) refl
    where
      by_fault : (x : Fault) (made amount : ℕ) → amount_unless x amount ≡ refused_at w row → paired_unless x made ≡ refused_at w row
      by_fault (Ok u) made amount m = let z : ◌≡◌ {A = ℕ} 0 1 = cc in absurd (omega arith)
      by_fault (Err v) made amount m =
          let same = same_refused m in
          ap₂ refused_at same.0 same.1

      go : (x : Result Layout Refused) → file_read b ≡ x → pair_answer b out count allowance ≡ refused_at w row
      go (Err refusal) r =
          let m = sym (amount_read b out count (Err refusal) r) ∙ q in
          let p : refusal.why ≡ w = cc in
          let j : refusal.row ≡ row = cc in
          pair_read b out count allowance (Err refusal) r ∙ ap₂ refused_at p j
      go (Ok l) r =
          pair_read b out count allowance (Ok l) r
          ∙ by_fault (instalment_fault (account_of b l) out count) (made_of (account_of b l) count allowance)
          (total_after (account_of b l) count) (sym (amount_read b out count (Ok l) r) ∙ q)

  -- The other way round.
  pub pair_refusal_is : (allowance : ℕ) (w : Refusal) (row : ℕ) → pair_answer b out count allowance ≡ refused_at w row
      → RefusedFor b out count w row
  unfolding meaning
  pair_refusal_is allowance w row q = go (file_ways b)
    where
      same_refusal : (v : Refusal) (i : ℕ) → pair_answer b out count allowance ≡ refused_at v i → (number w ≡ number v) × (row ≡ i)
      same_refusal v i m =
          let same = same_refused (sym q ∙ m) in
          (ap number same.0, same.1)

      by_way : (a : Account) → meaning b ≡ accepted a → Way a out count → RefusedFor b out count w row
      by_way a e (too_short h) =
          let told = same_refusal ListTooShort 0 (pair_short b a e out count h allowance) in
          inr (a, e, told.1, inl (h, told.0))
      by_way a e (not_first h wrong) =
          let told = same_refusal NotFirstPairs 0 (pair_18 b a e out count h wrong allowance) in
          inr (a, e, told.1, inr (h, wrong, told.0))
      by_way a e (goes_on h f) =
          let z : ◌≡◌ {A = ℕ} 0 1 = cc (pair_goes b a e out count h f allowance) in absurd (omega arith)

      go : FileWays b → RefusedFor b out count w row
      go (inl (a, e)) = by_way a e (way a out count)
      go (inr (v, i, r)) =
          let told = same_refusal v i (pair_read b out count allowance (refused_at v i) r) in
          inl (ap (meant b) r ∙ ap₂ refused (sym told.0) (sym told.1))

  pub so_far_refusal_is : (w : Refusal) (row : ℕ) → amount_so_far b out count ≡ refused_at w row → RefusedFor b out count w row
  so_far_refusal_is w row q = pair_refusal_is 0 w row (refused_alike w row q 0)

  -- So the number is 12 at most or 18, whatever numbers other calls give.
  pub pair_number : (allowance : ℕ) (w : Refusal) (row : ℕ) → pair_answer b out count allowance ≡ refused_at w row
      → (number w ≤ 12) ⊎ (number w ≡ 18)
  pair_number allowance w row q = go (pair_refusal_is allowance w row q)
    where
      go : RefusedFor b out count w row → (number w ≤ 12) ⊎ (number w ≡ 18)
      go (inl f) = inl (omega (arith, file_number b (number w) row f))
      go (inr (a, e, z, inl (h, n))) = inl (omega arith)
      go (inr (a, e, z, inr (h, wrong, n))) = inr n

  pub so_far_number : (w : Refusal) (row : ℕ) → amount_so_far b out count ≡ refused_at w row → (number w ≤ 12) ⊎ (number w ≡ 18)
  so_far_number w row q = pair_number 0 w row (refused_alike w row q 0)

  -- Where pairs or an amount are told, the file is accepted.
  pub pair_accepted : (allowance made : ℕ) → pair_answer b out count allowance ≡ Ok made
      → (a : Account) × (meaning b ≡ accepted a)
  pair_accepted allowance made q =
      never_refused b
      (λ w row r. let z : ◌≡◌ {A = ℕ} 0 1 = cc (pair_read b out count allowance (refused_at w row) r) in omega arith)

  pub so_far_accepted : (x : ℕ) → amount_so_far b out count ≡ Ok x → (a : Account) × (meaning b ≡ accepted a)
  so_far_accepted x q =
      never_refused b (λ w row r. let z : ◌≡◌ {A = ℕ} 0 1 = cc (amount_read b out count (refused_at w row) r) in omega arith)

-- An account without positions has no pairs: with count 0 none are made and the amount is 0, whatever the list, an empty one
-- too; any other count is refused with 18.
module _ (b : List ℕ) (a : Account) (e : meaning b ≡ accepted a) (empty : a.positions ≡ 0) (out : List Line) where
  pub empty_pair : (allowance : ℕ) → pair_answer b out 0 allowance ≡ Ok 0
  empty_pair allowance =
      pair_goes b a e out 0 (omega (arith, empty)) (none_yet a out) allowance
      ∙ ap Ok (omega (arith, pairs_fewer a, empty))

  pub empty_so_far : amount_so_far b out 0 ≡ Ok 0
  empty_so_far =
      so_far_goes b a e out 0 (omega (arith, empty)) (none_yet a out)
      ∙ ap Ok (total_all a 0 (omega (arith, pairs_fewer a, empty)) ∙ no_total a empty)

  no_pairs : (count : ℕ) → 0 < count → FirstPairs a out count → ⊥
  no_pairs count h f = omega (arith, f.count_most, pairs_fewer a, empty)

  pub empty_18 : (count : ℕ) → 0 < count → (allowance : ℕ) → pair_answer b out count allowance ≡ refused_at NotFirstPairs 0
  empty_18 count h allowance = pair_18 b a e out count (omega (arith, empty)) (no_pairs count h) allowance

  pub empty_so_far_18 : (count : ℕ) → 0 < count → amount_so_far b out count ≡ refused_at NotFirstPairs 0
  empty_so_far_18 count h = so_far_18 b a e out count (omega (arith, empty)) (no_pairs count h)
