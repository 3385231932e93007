-- What the caller's list holds after the call of document 02 [8], for every file, list, count and k: the laws that a client can
-- cite.
-- Assumes nothing.
use Prim.Native.Nat.{ℕ, ◌+◌, ◌-◌, ◌≤◌, ◌<◌}
use mathlib.Core.List.{List, ◌++◌, append_assoc}
use mathlib.Core.Path.{◌≡◌, refl, sym, ap, ap₂, subst, ◌∙◌}
use native.Mathlib.Nat.{add_comm}
use native.Mathlib.Omega.{arith}
use lib.ListN.{get_or-append, drop, get_or, get_or-replicate, length, length-append, length-drop, length-replicate, length-take, replicate-append-replicate, take, take-append-drop}
use lib.Seq.{drop_at, get_or-drop, take_at, take-take}
use Rattle.rules.proofs.ApartAnswers.{apart_accepted, apart_goes, apart_only, apart_told, paired_apart, refused_like_pairs}
use Rattle.rules.proofs.InstalmentAnswers.{FirstPairs, first_length, first_more, pair_accepted}
use Rattle.rules.proofs.InstalmentLaws.{pairs_fewer}
use Rattle.rules.specs.File.{Account}
use Rattle.rules.specs.Instalments.{PairedList, all_pairs, first_pairs, pair_answer}
use Rattle.rules.specs.Refusals.{accepted, meaning, refused_at}
use Rattle.rules.specs.TakingApart.{after_apart, apart_answer, count_after, list_apart, list_taken, zero_entries, zero_entry}
use Rattle.rules.specs.declared.Line.{Line}
use Rattle.rules.specs.declared.Refusal.{Refusal}
use Rattle.std.specs.Prelude.{Result, Ok, Err}
use Rattle.rules.specs.declared.Refused.{Refused}

-- The lines of the first pairs begin with those of fewer.
first_fewer : (a : Account) (left k : ℕ) → left + k ≤ length (all_pairs a) → take left (first_pairs a (left + k)) ≡ first_pairs a left
first_fewer a left k h =
    ap (take left) (first_more a left k) ∙ take_at (first_pairs a left) _ left (omega (arith, first_length a left))

-- "Every lent list keeps its content": after a refusal the list is what it was, whatever it held.
pub apart_leaves : (b : List ℕ) (out : List Line) (count k : ℕ) (w : Refusal) (row : ℕ)
    → apart_answer b out count k ≡ refused_at w row → list_apart b out count k ≡ out
unfolding list_apart
apart_leaves b out count k w row q = rw q

-- The list after a call that is not refused.
module _ (b : List ℕ) (out : List Line) (count k left : ℕ) (q : apart_answer b out count k ≡ Ok left) where
  -- The pair lines that are left, k entries of zeros, and the entries after the former count as they were.
  pub apart_parts : list_apart b out count k ≡ take left out ++ (zero_entries k ++ drop count out)
  unfolding list_apart
  apart_parts = ap (list_taken out count k) q

  -- "The count falls by k",
  pub left_count : left + k ≡ count
  left_count = let told = apart_told b out count k left q 0 in omega (arith, told.2, told.3)

  -- and all these lines are in the list.
  pub count_room : count ≤ length out
  count_room =
      let known = apart_accepted b out count k left q in
      let only = apart_only b out count k known.0 known.1 left q in
      omega (arith, only.0, only.1.count_most, pairs_fewer known.0)

  left_length : length (take left out) ≡ left
  left_length = omega (arith, length-take left out, left_count, count_room)

  zero_length : length (zero_entries k) ≡ k
  zero_length = length-replicate k zero_entry

  from_left : drop left (list_apart b out count k) ≡ zero_entries k ++ drop count out
  from_left = ap (drop left) apart_parts ∙ drop_at (take left out) _ left left_length

  -- "Their entries become all zeros."
  pub zeroed : take k (drop left (list_apart b out count k)) ≡ zero_entries k
  zeroed = ap (take k) from_left ∙ take_at (zero_entries k) _ k zero_length

  -- The five numbers of each of them are 0.
  pub entry_zero : (i : ℕ) → left ≤ i → i < count → (d : Line)
      → get_or (list_apart b out count k) i d
      ≡ record { kind = 0; secondNumber = 0; thirdNumber = 0; fourthNumber = 0; fifthNumber = 0 }
  entry_zero i from to d =
      let place : i ≡ left + (i - left) = omega (arith, from) in
      let among : i - left < k = omega (arith, from, to, left_count) in
      ap (λ (n : ℕ). get_or (list_apart b out count k) n d) place
      ∙ sym (get_or-drop left (list_apart b out count k) (i - left) d)
      ∙ ap (λ (l : List Line). get_or l (i - left) d) from_left
      ∙ get_or-append (zero_entries k) (drop count out) d (i - left) (omega (arith, among, zero_length))
      ∙ get_or-replicate k (i - left) zero_entry d among

  parts_before : take left (list_apart b out count k) ≡ take left out
  parts_before = ap (take left) apart_parts ∙ take_at (take left out) _ left left_length

  parts_after : drop count (list_apart b out count k) ≡ drop count out
  parts_after =
      ap (drop count) (apart_parts ∙ sym (append_assoc (take left out) (zero_entries k) (drop count out)))
      ∙ drop_at (take left out ++ zero_entries k) _ count
      (omega (arith, length-append (take left out) (zero_entries k), left_length, zero_length, left_count))

  parts_length : length (list_apart b out count k) ≡ length out
  parts_length =
      omega (
        arith,
        ap length apart_parts,
        length-append (take left out) (zero_entries k ++ drop count out),
        length-append (zero_entries k) (drop count out),
        length-drop count out,
        left_length,
        zero_length,
        left_count,
        count_room,
      )

  -- The list may be handed over again with the count that is told: the first pairs stand in it.
  pub apart_stand : (a : Account) → meaning b ≡ accepted a → FirstPairs a (list_apart b out count k) left
  apart_stand a e =
      let stand = (apart_only b out count k a e left q).1 in
      record {
        count_most = omega (arith, stand.count_most, left_count);
        lines_are =
            parts_before
            ∙ sym (take-take left count out (omega (arith, left_count)))
            ∙ ap (take left) (stand.lines_are ∙ ap (first_pairs a) (sym left_count))
            ∙ first_fewer a left k (omega (arith, stand.count_most, left_count));
      }

-- Whatever the answer, the entries before the removed ones stay, and so do those after the count, and the list has as many
-- entries as before.
module _ (b : List ℕ) (out : List Line) (count k : ℕ) where
  pub apart_before : take (count - k) (list_apart b out count k) ≡ take (count - k) out
  apart_before = go (apart_answer b out count k) refl
    where
      go : (x : Result ℕ Refused) → apart_answer b out count k ≡ x → take (count - k) (list_apart b out count k) ≡ take (count - k) out
      go (Err refusal) q = ap (take (count - k)) (apart_leaves b out count k refusal.why refusal.row q)
      go (Ok left) q =
          let same : left ≡ count - k = (apart_told b out count k left q 0).3 in
          subst (λ (n : ℕ). take n (list_apart b out count k) ≡ take n out) same (parts_before b out count k left q)

  pub apart_after : drop count (list_apart b out count k) ≡ drop count out
  apart_after = go (apart_answer b out count k) refl
    where
      go : (x : Result ℕ Refused) → apart_answer b out count k ≡ x → drop count (list_apart b out count k) ≡ drop count out
      go (Err refusal) q = ap (drop count) (apart_leaves b out count k refusal.why refusal.row q)
      go (Ok left) q = parts_after b out count k left q

  pub apart_length : length (list_apart b out count k) ≡ length out
  apart_length = go (apart_answer b out count k) refl
    where
      go : (x : Result ℕ Refused) → apart_answer b out count k ≡ x → length (list_apart b out count k) ≡ length out
      go (Err refusal) q = ap length (apart_leaves b out count k refusal.why refusal.row q)
      go (Ok left) q = parts_length b out count k left q

-- After a refusal a caller keeps list and count as they were.
pub kept_refused : (b : List ℕ) (kept : PairedList) (k : ℕ) (w : Refusal) (row : ℕ)
    → apart_answer b kept.list kept.count k ≡ refused_at w row → after_apart b k kept ≡ kept
kept_refused b kept k w row q =
    λ i.
    record {
      list = apart_leaves b kept.list kept.count k w row q i;
      count = ap (count_after kept.count) q i;
    }

-- Taking apart none changes nothing, whatever the answer.
pub none_taken : (b : List ℕ) (kept : PairedList) → after_apart b 0 kept ≡ kept
none_taken b kept = go (apart_answer b kept.list kept.count 0) refl
  where
    go : (x : Result ℕ Refused) → apart_answer b kept.list kept.count 0 ≡ x → after_apart b 0 kept ≡ kept
    go (Err refusal) q = kept_refused b kept 0 refusal.why refusal.row q
    go (Ok left) q =
        let same : left ≡ kept.count = omega (arith, left_count b kept.list kept.count 0 left q) in
        let lists =
        apart_parts b kept.list kept.count 0 left q
        ∙ ap (λ (n : ℕ). take n kept.list ++ drop kept.count kept.list) same
        ∙ take-append-drop kept.count kept.list in
        let counts = ap (count_after kept.count) q ∙ same in
        λ i. record { list = lists i; count = counts i }

-- Taking apart k and then m is taking apart k + m, where there are as many; whatever the answer.
module _ (b : List ℕ) (kept : PairedList) (k m : ℕ) (h : k + m ≤ kept.count) where
  -- Not refused: the count between, and what is kept then.
  module _ (made : ℕ) (p : pair_answer b kept.list kept.count 0 ≡ Ok made) where
    abbrev between : PairedList
    between = record { list = list_apart b kept.list kept.count k; count = kept.count - k }

    first_told : apart_answer b kept.list kept.count k ≡ Ok (kept.count - k)
    first_told = paired_apart b kept.list kept.count 0 made p k (omega (arith, h))

    second_told : apart_answer b between.list between.count m ≡ Ok (kept.count - k - m)
    second_told =
        let known = pair_accepted b kept.list kept.count 0 made p in
        apart_goes b known.0 known.1 between.list between.count
        (omega (
          arith,
          apart_length b kept.list kept.count k,
          (apart_only b kept.list kept.count k known.0 known.1 between.count first_told).0,
        ))
        (apart_stand b kept.list kept.count k between.count first_told known.0 known.1) m (omega (arith, h))

    lines_left : take (kept.count - k - m) between.list ≡ take (kept.count - k - m) kept.list
    lines_left =
        sym (take-take (kept.count - k - m) (kept.count - k) between.list (omega arith))
        ∙ ap (take (kept.count - k - m)) (parts_before b kept.list kept.count k between.count first_told)
        ∙ take-take (kept.count - k - m) (kept.count - k) kept.list (omega arith)

    zeros_both : zero_entries m ++ drop between.count between.list ≡ zero_entries (k + m) ++ drop kept.count kept.list
    zeros_both =
        ap (λ (l : List Line). zero_entries m ++ l) (from_left b kept.list kept.count k between.count first_told)
        ∙ sym (append_assoc (zero_entries m) (zero_entries k) (drop kept.count kept.list))
        ∙ ap (λ (l : List Line). l ++ drop kept.count kept.list)
        (replicate-append-replicate m k zero_entry ∙ ap zero_entries (add_comm m k))

    rest_same : kept.count - k - m ≡ kept.count - (k + m)
    rest_same = omega (arith, h)

    both_told : apart_answer b kept.list kept.count (k + m) ≡ Ok (kept.count - (k + m))
    both_told = paired_apart b kept.list kept.count 0 made p (k + m) h

    twice_list : list_apart b between.list between.count m ≡ list_apart b kept.list kept.count (k + m)
    twice_list =
        apart_parts b between.list between.count m (kept.count - k - m) second_told
        ∙ ap₂ (λ (x y : List Line). x ++ y) (lines_left ∙ ap (λ (n : ℕ). take n kept.list) rest_same) zeros_both
        ∙ sym (apart_parts b kept.list kept.count (k + m) (kept.count - (k + m)) both_told)

    twice_taken : after_apart b m between ≡ after_apart b (k + m) kept
    twice_taken =
        let counts =
        ap (count_after between.count) second_told ∙ rest_same ∙ sym (ap (count_after kept.count) both_told) in
        λ i. record { list = twice_list i; count = counts i }

  pub apart_twice : after_apart b m (after_apart b k kept) ≡ after_apart b (k + m) kept
  apart_twice = go (pair_answer b kept.list kept.count 0) refl
    where
      go : (x : Result ℕ Refused) → pair_answer b kept.list kept.count 0 ≡ x
          → after_apart b m (after_apart b k kept) ≡ after_apart b (k + m) kept
      go (Err refusal) p =
          let stays : (n : ℕ) → after_apart b n kept ≡ kept =
          λ n. kept_refused b kept n refusal.why refusal.row (refused_like_pairs b kept.list kept.count 0 refusal.why refusal.row p n) in
          ap (after_apart b m) (stays k) ∙ stays m ∙ sym (stays (k + m))
      go (Ok made) p =
          ap (λ (n : ℕ). after_apart b m (record { list = list_apart b kept.list kept.count k; count = n }))
          (ap (count_after kept.count) (first_told made p))
          ∙ twice_taken made p
