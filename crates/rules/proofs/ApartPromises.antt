-- What document 02 [8] promises of taking pairs apart, over the bytes of every file: pairing and taking apart again, the
-- statement of which is in specs/TakingApart.antt; the other way round, taking apart and pairing again; and the amount after
-- taking apart.
-- Assumes nothing.
use Prim.Native.Nat.{ℕ, ◌+◌, ◌-◌, ◌≤◌, ◌<◌}
use mathlib.Core.List.{List, [], ◌++◌}
use mathlib.Core.Path.{◌≡◌, refl, sym, ap, ap₂, subst, ◌∙◌}
use native.Mathlib.Nat.{add-zero}
use native.Mathlib.Omega.{arith}
use lib.ListN.{drop, length, take, take-append-drop}
use Rattle.rules.proofs.ApartAnswers.{apart_accepted, apart_goes, apart_only, refused_like_pairs}
use Rattle.rules.proofs.ApartLists.{apart_after, apart_before, apart_length, apart_stand, kept_refused, left_count}
use Rattle.rules.proofs.InstalmentAnswers.{FirstPairs, pair_accepted, pair_goes, pair_only, so_far_goes}
use Rattle.rules.proofs.InstalmentLists.{entries_after, entries_before, list_is, list_length, next_stand, refusal_leaves}
use Rattle.rules.proofs.InstalmentPromises.{half_paired}
use Rattle.rules.proofs.LineLaws.{left_quantities}
use Rattle.rules.specs.File.{Account}
use Rattle.rules.specs.Instalments.{HalfPaired, PairedList, after_call, amount_so_far, first_pairs, list_paired, made_of, pair_answer, pairs_told}
use Rattle.rules.specs.Lines.{entries_for, left_with_blocked, pair_lines, sum_over, total_after}
use Rattle.rules.specs.Promises.{pair_quantity}
use Rattle.rules.specs.Refusals.{accepted, meaning, refused_at}
use Rattle.rules.specs.TakingApart.{BackDemand, GoesBack, after_apart, apart_answer, back_again, contracts_left, count_after, list_apart, made_with}
use Rattle.rules.specs.declared.Line.{Line}
use Rattle.rules.specs.declared.Refusal.{Refusal}
use Rattle.std.specs.Prelude.{Result, Ok, Err}
use Rattle.rules.specs.declared.Refused.{Refused}

-- Where the first pairs stand in a list, the contracts left in a row are those after as many rounds.
pub contracts_stand : (b : List ℕ) (a : Account) → meaning b ≡ accepted a → (kept : PairedList)
    → entries_for a.positions ≤ length kept.list → FirstPairs a kept.list kept.count
    → (r : ℕ) → r < a.positions → contracts_left a kept r ≡ left_with_blocked a kept.count r
unfolding pair_lines
contracts_stand b a e kept long stand r there =
    let promised = half_paired b a e kept.list kept.count _ (so_far_goes b a e kept.list kept.count long stand) in
    omega (
      arith,
      promised.contracts r there,
      left_quantities a [] (left_with_blocked a kept.count) a.positions r there,
    )

-- A pairing that is refused, and the taking apart, which is refused alike, leave all as it was.
module _ (b : List ℕ) (kept : PairedList) (k : ℕ) (w : Refusal) (row : ℕ)
    (q : pair_answer b kept.list kept.count k ≡ refused_at w row) where
  call_leaves : after_call b k kept ≡ kept
  call_leaves =
      let counts = ap (λ (x : Result ℕ Refused). kept.count + pairs_told x) q ∙ add-zero kept.count in
      λ i. record { list = refusal_leaves b kept.list kept.count k w row q i; count = counts i }

  refused_stays : back_again b k kept ≡ kept
  refused_stays =
      ap (after_apart b (made_with b k kept)) call_leaves
      ∙ kept_refused b kept (made_with b k kept) w row (refused_like_pairs b kept.list kept.count k w row q (made_with b k kept))

  refused_back : GoesBack b k kept kept
  refused_back =
      record {
        told_is = λ made p. let z : ◌≡◌ {A = ℕ} 0 1 = cc in absurd (omega arith);
        count_is = refl;
        lines_are = refl;
        contracts_are = λ a e r there. refl;
        contracts_after_lem = λ a e made p r there. let z : ◌≡◌ {A = ℕ} 0 1 = cc in absurd (omega arith);
        again_told = refl;
        again_is = refl;
      }

-- A pairing that is not refused: `after` is the list then, `back_list` after the taking apart.
module _ (b : List ℕ) (kept : PairedList) (k made : ℕ) (q : pair_answer b kept.list kept.count k ≡ Ok made) where
  abbrev after : List Line
  after = list_paired b kept.list kept.count k

  abbrev back_list : List Line
  back_list = list_apart b after (kept.count + made) made

  made_apart : apart_answer b after (kept.count + made) made ≡ Ok kept.count
  made_apart =
      let known = pair_accepted b kept.list kept.count k made q in
      let only = pair_only b known.0 known.1 kept.list kept.count k made q in
      let same : kept.count + made - made ≡ kept.count = omega arith in
      apart_goes b known.0 known.1 after (kept.count + made)
      (omega (arith, list_length b kept.list kept.count k, only.0))
      (next_stand b known.0 known.1 kept.list kept.count k made q) made (omega arith)
      ∙ ap Ok same

  -- The taking apart answers the former count.
  told_apart : apart_answer b (after_call b k kept).list (after_call b k kept).count made ≡ Ok kept.count
  told_apart = ap (λ (x : Result ℕ Refused). apart_answer b after (kept.count + pairs_told x) made) q ∙ made_apart

  abbrev back_kept : PairedList
  back_kept = record { list = back_list; count = kept.count }

  back_is : back_again b k kept ≡ back_kept
  back_is =
      ap (λ (x : Result ℕ Refused). after_apart b (pairs_told x) (record { list = after; count = kept.count + pairs_told x })) q
      ∙ ap (λ (n : ℕ). record { list = back_list; count = n }) (ap (count_after (kept.count + made)) made_apart)

  -- The list is as long as it was, with the former pair lines, and the entries after those of the pairs made.
  back_length : length back_list ≡ length kept.list
  back_length = apart_length b after (kept.count + made) made ∙ list_length b kept.list kept.count k

  back_before : take kept.count back_list ≡ take kept.count kept.list
  back_before =
      let same : kept.count + made - made ≡ kept.count = omega arith in
      subst (λ (n : ℕ). take n back_list ≡ take n after) same (apart_before b after (kept.count + made) made)
      ∙ entries_before b kept.list kept.count k

  back_after : drop (kept.count + made) back_list ≡ drop (kept.count + made) kept.list
  back_after =
      apart_after b after (kept.count + made) made
      ∙ subst (λ (x : Result ℕ Refused). drop (kept.count + pairs_told x) after ≡ drop (kept.count + pairs_told x) kept.list) q
      (entries_after b kept.list kept.count k)

  -- So pairing again answers the same, and writes the same lines.
  module _ (a : Account) (e : meaning b ≡ accepted a) where
    back_stand : FirstPairs a back_list kept.count
    back_stand = apart_stand b after (kept.count + made) made kept.count made_apart a e

    back_room : entries_for a.positions ≤ length back_list
    back_room = omega (arith, back_length, (pair_only b a e kept.list kept.count k made q).0)

    again_made : pair_answer b back_list kept.count k ≡ Ok made
    again_made =
        pair_goes b a e back_list kept.count back_room back_stand k
        ∙ ap Ok (sym (pair_only b a e kept.list kept.count k made q).2)

    again_list : list_paired b back_list kept.count k ≡ after
    again_list =
        list_is b a e back_list kept.count k made again_made
        ∙ ap (λ (l : List Line). first_pairs a (kept.count + made) ++ l) back_after
        ∙ sym (list_is b a e kept.list kept.count k made q)

  made_back : GoesBack b k kept back_kept
  made_back =
      let known = pair_accepted b kept.list kept.count k made q in
      let told : pair_answer b back_list kept.count k ≡ pair_answer b kept.list kept.count k =
      again_made known.0 known.1 ∙ sym q in
      let counts = ap (λ (x : Result ℕ Refused). kept.count + pairs_told x) told in
      record {
        told_is = λ n p.
            let same : made ≡ n = cc in
            subst (λ (x : ℕ). apart_answer b (after_call b k kept).list (after_call b k kept).count x ≡ Ok kept.count) same
            told_apart;
        count_is = refl;
        lines_are = back_before;
        contracts_are = λ a e r there.
            ap (λ (l : List Line). (a.position_at r).q - sum_over (pair_quantity r) l) back_before;
        contracts_after_lem = λ a e n p r there. contracts_stand b a e back_kept (back_room a e) (back_stand a e) r there;
        again_told = told;
        again_is = λ i. record { list = again_list known.0 known.1 i; count = counts i };
      }

-- "Pairing with an allowance of k, then taking apart as many as were made, gives back the former count and the former contracts
-- left in every row; pairing again writes the same lines."
pub back : (b : List ℕ) → BackDemand b
back b kept k = go (pair_answer b kept.list kept.count k) refl
  where
    go : (x : Result ℕ Refused) → pair_answer b kept.list kept.count k ≡ x → GoesBack b k kept (back_again b k kept)
    go (Err refusal) q = subst (GoesBack b k kept) (sym (refused_stays b kept k refusal.why refusal.row q)) (refused_back b kept k refusal.why refusal.row q)
    go (Ok made) q = subst (GoesBack b k kept) (sym (back_is b kept k made q)) (made_back b kept k made q)

-- The list after taking apart k.
module _ (b : List ℕ) (kept : PairedList) (k left : ℕ) (q : apart_answer b kept.list kept.count k ≡ Ok left)
    (a : Account) (e : meaning b ≡ accepted a) where
  abbrev less : List Line
  less = list_apart b kept.list kept.count k

  stand : FirstPairs a kept.list kept.count
  stand = (apart_only b kept.list kept.count k a e left q).1

  less_room : entries_for a.positions ≤ length less
  less_room =
      omega (arith, apart_length b kept.list kept.count k, (apart_only b kept.list kept.count k a e left q).0)

  less_stand : FirstPairs a less left
  less_stand = apart_stand b kept.list kept.count k left q a e

  count_again : left + k ≡ kept.count
  count_again = left_count b kept.list kept.count k left q

  made_again : pair_answer b less left k ≡ Ok k
  made_again =
      let all : made_of a left k ≡ k = omega (arith, stand.count_most, count_again) in
      pair_goes b a e less left less_room less_stand k ∙ ap Ok all

  list_again : list_paired b less left k ≡ kept.list
  list_again =
      list_is b a e less left k k made_again
      ∙ ap (λ (n : ℕ). first_pairs a n ++ drop n less) count_again
      ∙ ap₂ (λ (x y : List Line). x ++ y) (sym stand.lines_are) (apart_after b kept.list kept.count k)
      ∙ take-append-drop kept.count kept.list

  -- The amount so far is that after the pairs that are left.
  pub apart_amount : amount_so_far b less left ≡ Ok (total_after a left)
  apart_amount = so_far_goes b a e less left less_room less_stand

  -- So what is promised of a half-paired account holds of it,
  pub apart_half : HalfPaired a (take left less) left (total_after a left)
  apart_half = half_paired b a e less left (total_after a left) apart_amount

  -- and the contracts left are those after as many rounds.
  pub apart_contracts : (r : ℕ) → r < a.positions → contracts_left a (after_apart b k kept) r ≡ left_with_blocked a left r
  apart_contracts r there =
      ap (λ (n : ℕ). contracts_left a (record { list = less; count = n }) r) (ap (count_after kept.count) q)
      ∙ contracts_stand b a e (record { list = less; count = left }) less_room less_stand r there

-- The other way round: after taking apart k, pairing with an allowance of k makes k pairs, and gives back list and count.
pub apart_paired : (b : List ℕ) (kept : PairedList) (k left : ℕ) → apart_answer b kept.list kept.count k ≡ Ok left
    → (pair_answer b (after_apart b k kept).list left k ≡ Ok k) × (after_call b k (after_apart b k kept) ≡ kept)
apart_paired b kept k left q = (told, again)
  where
    account : (a : Account) × (meaning b ≡ accepted a)
    account = apart_accepted b kept.list kept.count k left q

    told : pair_answer b (less b kept k left q account.0 account.1) left k ≡ Ok k
    told = made_again b kept k left q account.0 account.1

    counts : left + pairs_told (pair_answer b (list_apart b kept.list kept.count k) left k) ≡ kept.count
    counts = ap (λ (x : Result ℕ Refused). left + pairs_told x) told ∙ count_again b kept k left q account.0 account.1

    again : after_call b k (after_apart b k kept) ≡ kept
    again =
        ap (λ (n : ℕ). after_call b k (record { list = list_apart b kept.list kept.count k; count = n }))
        (ap (count_after kept.count) q)
        ∙ (λ i. record { list = list_again b kept k left q account.0 account.1 i; count = counts i })
