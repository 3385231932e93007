-- What a call works out: a refusal, or lines and a number; and what taking lines apart answers.
-- Assumes nothing.
use Prim.Native.Nat.{ℕ, ◌+◌, ◌-◌, ◌≤◌, ◌<◌}
use mathlib.Core.Bool.{Bool, true, false}
use mathlib.Core.List.{List}
use mathlib.Core.Path.{◌≡◌, refl, sym, ap, ap₂, subst, ◌∙◌}
use native.Mathlib.Omega.{arith}
use lib.ListN.{length}
use borrow.Author.Tests.{le-ltb, lt-ltb}
use Rattle.account.proofs.KnownRows.{known}
use Rattle.instalments.specs.Ready.{Ready, amount_for, apart_by, call_lines, pairs_for, pairs_of_file, ready_by}
use Rattle.lines.specs.LineNumbers.{lines_from}
use Rattle.lines_and_total.specs.Listing.{AccountListed, PairsListed}
use Rattle.lines_and_total.specs.declared.Listed.{Listed}
use Rattle.pairing.specs.declared.Instalment.{Instalment}
use Rattle.rules.proofs.InstalmentLaws.{after_same, first_after, first_count, more_count, pairs_fewer}
use Rattle.rules.specs.File.{Account, account_of}
use Rattle.rules.specs.Instalments.{all_pairs, made_of}
use Rattle.rules.specs.Lines.{entries_for, pair_lines, premiums, total_after}
use Rattle.rules.specs.Pairs.{pairs_after}
use Rattle.rules.specs.Refusals.{file_read, refused_at}
use Rattle.rules.specs.declared.Layout.{Layout}
use Rattle.rules.specs.declared.Refusal.{Refusal}
use Rattle.rules.specs.declared.Refusal.TheVariants.{AboveCount, ListTooShort, NotFirstPairs}
use Rattle.std.specs.Prelude.{Result, Ok, Err}
use Rattle.rules.specs.declared.Refused.{Refused}
use Rattle.instalments.specs.declared.CallLines.{CallLines}

-- The three ways by the account.
module _ (a : Account) (room count last value : ℕ) where
  by_short : room < entries_for a.positions → ready_by a room count last value ≡ refused_at ListTooShort 0
  by_short h = rw (lt-ltb room (entries_for a.positions) h)

  by_18 : entries_for a.positions ≤ room → length (all_pairs a) < count → ready_by a room count last value ≡ refused_at NotFirstPairs 0
  by_18 h f = rw (le-ltb room (entries_for a.positions) h, lt-ltb (length (all_pairs a)) count f)

  by_lines : entries_for a.positions ≤ room → count ≤ length (all_pairs a) → ready_by a room count last value ≡ call_lines count last value
  by_lines h f = rw (le-ltb room (entries_for a.positions) h, le-ltb (length (all_pairs a)) count f)

-- The pairs made come after those that there were.
pub made_fits : (b : List ℕ) (l : Layout) (count allowance : ℕ) (numbers : List ℕ) (r : Instalment) → PairsListed (account_of b l) count allowance numbers r
    → r.first ≤ r.pairs.count
made_fits b l count allowance numbers r f =
    omega (arith, f.first_is, f.count_is, first_count (account_of b l) count, first_count (account_of b l) (count + allowance))

-- The lines stand in `size` numbers: as many as an account's pairs or all its lines can have.
module _ (size : ℕ) (b : List ℕ) (room : ℕ) (numbers : List ℕ) (en : length numbers ≡ size) where
  -- A refusal has no lines.
  no_lines : (x : Result Layout Refused) → lines_from numbers 0 ≡ pairs_of_file b x 0
  unfolding lines_from pair_lines
  no_lines (Err refusal) = refl
  no_lines (Ok l) = refl

  not_ready : (is : Result CallLines Refused) (w : Refusal) (i : ℕ) → is ≡ refused_at w i → Ready size b room numbers is (refused_at w i)
  not_ready is w i e =
      record {
        ready_is = sym e;
        lines_are = no_lines (file_read b);
        order = omega arith;
        reach_most = omega arith;
        reach_small = omega arith;
        numbers_length = en;
      }

  pub pairs_refused : (count allowance : ℕ) (w : Refusal) (i : ℕ) → file_read b ≡ refused_at w i → Ready size b room numbers (pairs_for b room count allowance (file_read b)) (refused_at w i)
  pairs_refused count allowance w i e = not_ready _ w i (ap (pairs_for b room count allowance) e)

  pub amount_refused : (count : ℕ) (w : Refusal) (i : ℕ) → file_read b ≡ refused_at w i → Ready size b room numbers (amount_for b room count (file_read b)) (refused_at w i)
  amount_refused count w i e = not_ready _ w i (ap (amount_for b room count) e)

  module _ (l : Layout) (e : file_read b ≡ Ok l) (count : ℕ) where
    abbrev a : Account
    a = account_of b l

    abbrev all : ℕ
    all = length (all_pairs a)

    -- Lines up to the pairs after n rounds.
    ready : (is : Result CallLines Refused) (n last value : ℕ) → entries_for l.positions ≤ room → is ≡ call_lines count last value → count ≤ last
        → last ≡ length (pairs_after a n) → lines_from numbers last ≡ pair_lines a (pairs_after a n) → Ready size b room numbers is (call_lines count last value)
    ready is n last value h q order many lines =
        let few : last ≤ l.positions = omega (arith, many, first_count a n, pairs_fewer a) in
        record {
          ready_is = sym q;
          lines_are =
              lines
              ∙ ap (pair_lines a) (sym (first_after a last ∙ after_same a last n (omega (arith, many, first_count a last, first_count a n))))
              ∙ sym (ap (λ (x : Result Layout Refused). pairs_of_file b x last) e);
          order = order;
          reach_most = omega (arith, few);
          reach_small = omega (arith, few, (known b l e).placed.positions_most);
          numbers_length = en;
        }

    module _ (allowance : ℕ) where
      pub pairs_short : room < entries_for l.positions → Ready size b room numbers (pairs_for b room count allowance (file_read b)) (refused_at ListTooShort 0)
      pairs_short h = not_ready _ _ 0 (ap (pairs_for b room count allowance) e ∙ by_short a room count _ _ h)

      pub pairs_18 : (r : Instalment) → entries_for l.positions ≤ room → PairsListed a count allowance numbers r → r.first < count
          → Ready size b room numbers (pairs_for b room count allowance (file_read b)) (refused_at NotFirstPairs 0)
      pairs_18 r h f less =
          not_ready _ _ 0 (ap (pairs_for b room count allowance) e ∙ by_18 a room count _ _ h (omega (arith, f.first_is, first_count a count)))

      pub pairs_ready : (r : Instalment) → entries_for l.positions ≤ room → PairsListed a count allowance numbers r → count ≤ r.first
          → Ready size b room numbers (pairs_for b room count allowance (file_read b)) (call_lines r.first r.pairs.count (r.pairs.count - r.first))
      pairs_ready r h f many =
          let there : count ≤ all = omega (arith, f.first_is, first_count a count) in
          let first : count ≡ r.first = omega (arith, f.first_is, first_count a count) in
          let last : count + made_of a count allowance ≡ r.pairs.count = sym (f.count_is ∙ more_count a count allowance there) in
          let value : made_of a count allowance ≡ r.pairs.count - r.first = omega (arith, first, last) in
          let is : pairs_for b room count allowance (file_read b) ≡ call_lines count r.pairs.count (r.pairs.count - r.first) =
          ap (pairs_for b room count allowance) e ∙ by_lines a room count _ _ h there ∙ ap₂ (call_lines count) last value
          in
          subst (λ (k : ℕ). Ready size b room numbers (pairs_for b room count allowance (file_read b)) (call_lines k r.pairs.count (r.pairs.count - r.first))) first
          (ready _ (count + allowance) r.pairs.count (r.pairs.count - r.first) h is (omega (arith, last)) f.count_is f.lines_are)

    pub amount_short : room < entries_for l.positions → Ready size b room numbers (amount_for b room count (file_read b)) (refused_at ListTooShort 0)
    amount_short h = not_ready _ _ 0 (ap (amount_for b room count) e ∙ by_short a room count _ _ h)

    pub amount_18 : (r : Listed) → entries_for l.positions ≤ room → AccountListed a count numbers r → r.first < count
        → Ready size b room numbers (amount_for b room count (file_read b)) (refused_at NotFirstPairs 0)
    amount_18 r h f less =
        not_ready _ _ 0 (ap (amount_for b room count) e ∙ by_18 a room count _ _ h (omega (arith, f.first_is, first_count a count)))

    pub amount_ready : (r : Listed) (premium : ℕ) → entries_for l.positions ≤ room → AccountListed a count numbers r → count ≤ r.first
        → premium ≡ premiums a → Ready size b room numbers (amount_for b room count (file_read b)) (call_lines r.first r.first (r.lines.total + premium))
    amount_ready r premium h f many ep =
        let there : count ≤ all = omega (arith, f.first_is, first_count a count) in
        let first : count ≡ r.first = omega (arith, f.first_is, first_count a count) in
        let value : total_after a count ≡ r.lines.total + premium = sym (ap₂ (λ x y. x + y) f.total_is ep) in
        let is : amount_for b room count (file_read b) ≡ call_lines count r.first (r.lines.total + premium) =
        ap (amount_for b room count) e ∙ by_lines a room count _ _ h there ∙ ap₂ (call_lines count) first value
        in
        subst (λ (k : ℕ). Ready size b room numbers (amount_for b room count (file_read b)) (call_lines k r.first (r.lines.total + premium))) first
        (ready _ count r.first (r.lines.total + premium) h is (omega (arith, first)) f.first_is f.pair_lines_lem)

-- The three ways of a call with lines that takes k of them apart: 19, k taken apart, 18.
module _ (r : Result CallLines Refused) (same : Bool) (k first last value : ℕ) (e : r ≡ call_lines first last value) where
  pub apart_above : same ≡ true → first < k → refused_at AboveCount 0 ≡ apart_by r same k
  apart_above s h = rw (e, s, lt-ltb first k h)

  pub apart_left : same ≡ true → k ≤ first → Ok (first - k) ≡ apart_by r same k
  apart_left s h = rw (e, s, le-ltb first k h)

  pub apart_other : same ≡ false → refused_at NotFirstPairs 0 ≡ apart_by r same k
  apart_other s = rw (e, s)
