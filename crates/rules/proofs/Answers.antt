-- What the operations answer, for every file and every list: the laws that a client can cite. An operation's contract says
-- that it answers `margin_answer`, `list_after`, `signed_answer (amount_answer ..)` and `premium_answer`; these laws say what those are. The same
-- of the numbers that a C program is given is in crate serpentgleam, proofs/AnswerNumbers.antt.
-- Assumes nothing.
use Prim.Native.Nat.{ℕ, ◌*◌, ◌-◌, ◌≤◌, ◌<◌}
use mathlib.Core.Bool.{Bool, true, false, cond}
use mathlib.Core.List.{List, ◌++◌}
use mathlib.Core.Logic.{◌⊎◌, inl, inr}
use mathlib.Core.Path.{◌≡◌, refl, sym, ap, ◌∙◌, subst}
use native.Mathlib.Omega.{arith}
use borrow.Author.Tests.{le-leb, le-ltb, lt-leb, lt-ltb, ltb-false, ltb-true}
use lib.Dec.{ltb}
use lib.IntN.{neg_ℤ, pos}
use lib.ListN.{drop, length, length-append, length-drop}
use Rattle.rules.proofs.Demand3.{answered}
use Rattle.rules.proofs.FileNumbers.{file_number}
use Rattle.rules.proofs.LineLaws.{line_count_lem, lines_are}
use Rattle.rules.proofs.Reading.{accepted_within, within_accepted, within_read}
use Rattle.rules.specs.File.{Account, account_of, layout, position_count}
use Rattle.rules.specs.Limits.{FileWithin}
use Rattle.rules.specs.Lines.{comes_to, entries_for, lines, lines_for, lines_given, list_after, margin_answer, margin_for_list, most_lines, premium_answer, premiums, premiums_of, total}
use Rattle.rules.specs.OnePosition.{amount_answer, amount_for_row, position_amount, signed_answer}
use Rattle.rules.specs.Refusals.{accepted, file_read, meaning, meant, number, refused, refused_at}
use Rattle.rules.specs.declared.Line.{Line}
use Rattle.rules.specs.declared.Refusal.{Refusal}
use Rattle.rules.specs.declared.Refusal.TheVariants.{FileSize, Trailer, Distance, SeriesRange, SeriesType, PositionTerms, PositionRange, LimiterPrice, BarrierPrice, BarrierSide, ListTooShort, RowAskedFor, FactorsAskedFor, SeriesAskedFor, DayPrices, NotFirstPairs, AboveCount, LoadAskedFor}
use Rattle.std.specs.Prelude.{Result, Ok, Err}
use Rattle.rules.specs.declared.Refused.{Refused}
use Rattle.rules.specs.declared.Layout.{Layout}
use Rattle.rules.proofs.SameAnswers.{same_refused}

-- Every refusal's number is 1 to 20, so that 0 and amounts are never taken for one; none is 3, which is withdrawn, and none
-- is 15, which no request gives.
pub number_range : (w : Refusal) → (1 ≤ number w) × (number w ≤ 20) × (number w ≡ 3 → ⊥) × (number w ≡ 15 → ⊥)
number_range FileSize = (omega arith, omega arith, λ (q : number FileSize ≡ 3). omega arith, λ (q : number FileSize ≡ 15). omega arith)
number_range Trailer = (omega arith, omega arith, λ (q : number Trailer ≡ 3). omega arith, λ (q : number Trailer ≡ 15). omega arith)
number_range Distance = (omega arith, omega arith, λ (q : number Distance ≡ 3). omega arith, λ (q : number Distance ≡ 15). omega arith)
number_range SeriesRange = (omega arith, omega arith, λ (q : number SeriesRange ≡ 3). omega arith, λ (q : number SeriesRange ≡ 15). omega arith)
number_range SeriesType = (omega arith, omega arith, λ (q : number SeriesType ≡ 3). omega arith, λ (q : number SeriesType ≡ 15). omega arith)
number_range PositionTerms = (omega arith, omega arith, λ (q : number PositionTerms ≡ 3). omega arith, λ (q : number PositionTerms ≡ 15). omega arith)
number_range PositionRange = (omega arith, omega arith, λ (q : number PositionRange ≡ 3). omega arith, λ (q : number PositionRange ≡ 15). omega arith)
number_range LimiterPrice = (omega arith, omega arith, λ (q : number LimiterPrice ≡ 3). omega arith, λ (q : number LimiterPrice ≡ 15). omega arith)
number_range BarrierPrice = (omega arith, omega arith, λ (q : number BarrierPrice ≡ 3). omega arith, λ (q : number BarrierPrice ≡ 15). omega arith)
number_range BarrierSide = (omega arith, omega arith, λ (q : number BarrierSide ≡ 3). omega arith, λ (q : number BarrierSide ≡ 15). omega arith)
number_range ListTooShort = (omega arith, omega arith, λ (q : number ListTooShort ≡ 3). omega arith, λ (q : number ListTooShort ≡ 15). omega arith)
number_range RowAskedFor = (omega arith, omega arith, λ (q : number RowAskedFor ≡ 3). omega arith, λ (q : number RowAskedFor ≡ 15). omega arith)
number_range FactorsAskedFor = (omega arith, omega arith, λ (q : number FactorsAskedFor ≡ 3). omega arith, λ (q : number FactorsAskedFor ≡ 15). omega arith)
number_range SeriesAskedFor = (omega arith, omega arith, λ (q : number SeriesAskedFor ≡ 3). omega arith, λ (q : number SeriesAskedFor ≡ 15). omega arith)
number_range DayPrices = (omega arith, omega arith, λ (q : number DayPrices ≡ 3). omega arith, λ (q : number DayPrices ≡ 15). omega arith)
number_range NotFirstPairs = (omega arith, omega arith, λ (q : number NotFirstPairs ≡ 3). omega arith, λ (q : number NotFirstPairs ≡ 15). omega arith)
number_range AboveCount = (omega arith, omega arith, λ (q : number AboveCount ≡ 3). omega arith, λ (q : number AboveCount ≡ 15). omega arith)
number_range LoadAskedFor = (omega arith, omega arith, λ (q : number LoadAskedFor ≡ 3). omega arith, λ (q : number LoadAskedFor ≡ 15). omega arith)

module _ (b : List ℕ) where
  -- The answer, and the lines given, by the reading.
  pub answer_read_lem : (n : ℕ) (x : Result Layout Refused) → file_read b ≡ x → margin_answer b n ≡ margin_for_list b n x
  unfolding margin_answer
  answer_read_lem n x r = ap (margin_for_list b n) r

  pub given_read : (n : ℕ) (x : Result Layout Refused) → file_read b ≡ x → lines_given b n ≡ lines_for b x (margin_for_list b n x)
  unfolding lines_given margin_answer
  given_read n x r = ap (λ (y : Result Layout Refused). lines_for b y (margin_for_list b n y)) r

  -- The reading of a file that is accepted or refused.
  pub accepted_read : (a : Account) → meaning b ≡ accepted a → (file_read b ≡ Ok (layout b)) × (a ≡ account_of b (layout b))
  accepted_read a e = let k = accepted_within b a e in (within_read b k.0, k.1)

  pub refused_read : (k row : ℕ) → meaning b ≡ refused k row → (w : Refusal) × (number w ≡ k) × (file_read b ≡ refused_at w row)
  unfolding meaning
  refused_read k row e = go (file_read b) refl
    where
      go : (x : Result Layout Refused) → file_read b ≡ x → (w : Refusal) × (number w ≡ k) × (file_read b ≡ refused_at w row)
      go (Ok l) q =
          let m = sym (ap (meant b) q) ∙ e in
          let z : ◌≡◌ {A = ℕ} 0 1 = cc in
          absurd (omega arith)
      go (Err refusal) q =
          let m = sym (ap (meant b) q) ∙ e in
          let p : number refusal.why ≡ k = cc in
          let r : refusal.row ≡ row = cc in
          (refusal.why, p, q ∙ ap (refused_at refusal.why) r)

  -- An accepted file and a list of at least 2 × p entries: the line count and the total.
  pub margin_accepted : (a : Account) → meaning b ≡ accepted a → (n : ℕ) → entries_for a.positions ≤ n → margin_answer b n ≡ comes_to (length (lines a)) (total a)
  margin_accepted a e n =
      let k = accepted_read a e in
      subst (λ (x : Account). entries_for x.positions ≤ n → margin_answer b n ≡ comes_to (length (lines x)) (total x)) (sym k.1)
      (λ h. rw (answer_read_lem n (Ok (layout b)) k.0, le-ltb n (entries_for (layout b).positions) h))

  -- A list of `most_lines` entries is never too short.
  pub margin_most : (a : Account) → meaning b ≡ accepted a → margin_answer b most_lines ≡ comes_to (length (lines a)) (total a)
  unfolding layout
  margin_most a e =
      let k = accepted_within b a e in
      let few : entries_for (position_count b) ≤ most_lines = omega (arith, k.0.trailer.positions_most) in
      margin_accepted a e most_lines (subst (λ (x : Account). entries_for x.positions ≤ most_lines) (sym k.1) few)

  -- Demand 1 of the operation: "A file that keeps the limits of document 01 is accepted and gets its lines and total,
  -- whatever its rows hold", in a list of at least 2 × p entries.
  pub margin_within : FileWithin b → (n : ℕ) → entries_for (position_count b) ≤ n
      → margin_answer b n ≡ comes_to (length (lines (account_of b (layout b)))) (total (account_of b (layout b)))
  unfolding layout
  margin_within h n = margin_accepted (account_of b (layout b)) (within_accepted b h) n

  -- An accepted file and a shorter list: refusal 12, row 0.
  pub margin_short : (a : Account) → meaning b ≡ accepted a → (n : ℕ) → n < entries_for a.positions → margin_answer b n ≡ refused_at ListTooShort 0
  margin_short a e n =
      let k = accepted_read a e in
      subst (λ (x : Account). n < entries_for x.positions → margin_answer b n ≡ refused_at ListTooShort 0) (sym k.1)
      (λ h. rw (answer_read_lem n (Ok (layout b)) k.0, lt-ltb n (entries_for (layout b).positions) h))

  -- A refused file: its number and row, whatever the list.
  pub margin_refused : (k row : ℕ) → meaning b ≡ refused k row → (n : ℕ) → (w : Refusal) × (number w ≡ k) × (margin_answer b n ≡ refused_at w row)
  margin_refused k row e n =
      let r = refused_read k row e in
      (r.0, r.1, answer_read_lem n (refused_at r.0 row) r.2)

  -- The other way round: a refusal is the reading's, or the list was too short, with number 12 and row 0.
  pub refusal_is : (n : ℕ) (w : Refusal) (row : ℕ) → margin_answer b n ≡ refused_at w row
      → (meaning b ≡ refused (number w) row) ⊎ ((a : Account) × (meaning b ≡ accepted a) × (n < entries_for a.positions) × (number w ≡ 12) × (row ≡ 0))
  unfolding margin_answer meaning
  refusal_is n w row e = go (file_read b) refl
    where
      go : (x : Result Layout Refused) → file_read b ≡ x
          → (meaning b ≡ refused (number w) row) ⊎ ((a : Account) × (meaning b ≡ accepted a) × (n < entries_for a.positions) × (number w ≡ 12) × (row ≡ 0))
      go (Err refusal) q =
          let m = sym (answer_read_lem n (Err refusal) q) ∙ e in
          let p : refusal.why ≡ w = cc in
          let r : refusal.row ≡ row = cc in
          inl (ap (meant b) q ∙ ap (λ (x : Refusal). refused (number x) refusal.row) p ∙ ap (refused (number w)) r)
      go (Ok l) q = by_room (ltb n (entries_for l.positions)) refl (sym (answer_read_lem n (Ok l) q) ∙ e)
        where
          by_room : (t : Bool) → ltb n (entries_for l.positions) ≡ t
              → cond t (refused_at ListTooShort 0) (comes_to (length (lines (account_of b l))) (total (account_of b l))) ≡ refused_at w row
              → (meaning b ≡ refused (number w) row) ⊎ ((a : Account) × (meaning b ≡ accepted a) × (n < entries_for a.positions) × (number w ≡ 12) × (row ≡ 0))
          by_room true t m =
              let same = same_refused m in
              inr (account_of b l, ap (meant b) q, ltb-true n (entries_for l.positions) t, ap number (sym same.0), sym same.1)
          by_room false t m = let z : ◌≡◌ {A = ℕ} 0 1 = cc in absurd (omega arith)

  -- So the number that a margin is refused with is 12 at most, whatever numbers other calls give.
  pub margin_number : (n : ℕ) (w : Refusal) (row : ℕ) → margin_answer b n ≡ refused_at w row → number w ≤ 12
  margin_number n w row e = go (refusal_is n w row e)
    where
      go : (meaning b ≡ refused (number w) row) ⊎ ((a : Account) × (meaning b ≡ accepted a) × (n < entries_for a.positions) × (number w ≡ 12) × (row ≡ 0)) → number w ≤ 12
      go (inl f) = omega (arith, file_number b (number w) row f)
      go (inr (a, f, l, q, z)) = omega arith

  -- "Every lent list keeps its content": after a refusal the list is what it was, whatever it held.
  pub refusal_keeps : (out : List Line) (w : Refusal) (row : ℕ) → margin_answer b (length out) ≡ refused_at w row → list_after b out ≡ out
  unfolding list_after lines_given
  refusal_keeps out w row e = rw e

  -- An answer with lines: the account is accepted, the list afterwards is its lines and then the old entries from the
  -- count on, the count is at most 2 × p - 1 (0 where p is 0), and the list is as long as it was.
  pub record LinesAnswered (out : List Line) (count sum : ℕ) : Type 0 where
    pub account : Account
    pub is_accepted : meaning b ≡ accepted account
    pub count_is : count ≡ length (lines account)
    pub sum_is : sum ≡ total account
    pub list_is : list_after b out ≡ lines account ++ drop count out
    pub count_most : count ≤ 2 * account.positions - 1
    pub length-is : length (list_after b out) ≡ length out

  -- Where the operation answers lines, the list has at least 2 × p entries.
  pub room_enough : (a : Account) → meaning b ≡ accepted a → (n count sum : ℕ) → margin_answer b n ≡ comes_to count sum → entries_for a.positions ≤ n
  room_enough a e n count sum h = by_room (ltb n (entries_for a.positions)) refl
    where
      by_room : (t : Bool) → ltb n (entries_for a.positions) ≡ t → entries_for a.positions ≤ n
      by_room false t = ltb-false n (entries_for a.positions) t
      by_room true t =
          let m = sym (margin_short a e n (ltb-true n (entries_for a.positions) t)) ∙ h in
          let z : ◌≡◌ {A = ℕ} 0 1 = cc in
          absurd (omega arith)

  pub lines_answered : (out : List Line) (count sum : ℕ) → margin_answer b (length out) ≡ comes_to count sum → LinesAnswered out count sum
  unfolding list_after
  lines_answered out count sum e =
      let k = answered b (length out) count sum e in
      let a = k.0 in
      let fits = line_count_lem a a.positions in
      let long = room_enough a k.1 (length out) count sum e in
      let is : list_after b out ≡ lines a ++ drop count out =
      ap (λ (l : List Line). l ++ drop (length l) out) k.4 ∙ ap (λ (n : ℕ). lines a ++ drop n out) (sym k.2) in
      record {
        account = a;
        is_accepted = k.1;
        count_is = k.2;
        sum_is = k.3;
        list_is = is;
        count_most = omega (arith, k.2, ap length (lines_are a), fits);
        length-is =
            omega
            (arith, ap length is, length-append (lines a) (drop count out), length-drop count out, k.2, ap length (lines_are a), fits, long);
      }

  -- The call for one position of an accepted file: a number of 0 or more, the row's amount.
  pub amount_accepted_lem : (a : Account) → meaning b ≡ accepted a → (row : ℕ) → row < a.positions
      → signed_answer (amount_answer b row) ≡ pos (position_amount a row)
  unfolding amount_answer
  amount_accepted_lem a e row =
      let k = accepted_read a e in
      subst (λ (x : Account). row < x.positions → signed_answer (amount_answer b row) ≡ pos (position_amount x row)) (sym k.1)
      (λ h. rw (k.0, lt-leb (layout b).positions row h))

  -- An accepted file without that row: −13.
  pub amount_no_row : (a : Account) → meaning b ≡ accepted a → (row : ℕ) → a.positions ≤ row
      → signed_answer (amount_answer b row) ≡ neg_ℤ (pos 13)
  unfolding amount_answer
  amount_no_row a e row =
      let k = accepted_read a e in
      subst (λ (x : Account). x.positions ≤ row → signed_answer (amount_answer b row) ≡ neg_ℤ (pos 13)) (sym k.1)
      (λ h. rw (k.0, le-leb (layout b).positions row h))

  -- A refused file: minus the number, whatever the row.
  pub amount_refused : (k i : ℕ) → meaning b ≡ refused k i → (row : ℕ) → signed_answer (amount_answer b row) ≡ neg_ℤ (pos k)
  unfolding amount_answer
  amount_refused k i e row =
      let r = refused_read k i e in
      ap (λ (x : Result Layout Refused). signed_answer (amount_for_row b row x)) r.2 ∙ ap (λ (x : ℕ). neg_ℤ (pos x)) r.1

  -- The premiums of an accepted file are its account's; a refused file gives its number and row.
  pub premium_accepted : (a : Account) → meaning b ≡ accepted a → premium_answer b ≡ Ok (premiums a)
  unfolding premium_answer
  premium_accepted a e =
      let k = accepted_read a e in
      rw (k.0, k.1)

  pub premium_refused : (k i : ℕ) → meaning b ≡ refused k i → (w : Refusal) × (number w ≡ k) × (premium_answer b ≡ refused_at w i)
  unfolding premium_answer
  premium_refused k i e =
      let r = refused_read k i e in
      (r.0, r.1, ap (premiums_of b) r.2)
