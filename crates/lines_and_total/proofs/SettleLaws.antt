-- The whole account: its pairs, then its rows left; and the answer for a file: refused, the list too short, or the lines
-- and the total.
-- Assumes nothing.
use Prim.Native.Nat.{ℕ, ◌+◌, ◌*◌, ◌-◌, ◌≤◌, ◌<◌, min}
use mathlib.Core.List.{List, ◌++◌}
use mathlib.Core.Path.{◌≡◌, refl, sym, ap, ap₂, subst, ◌∙◌}
use native.Mathlib.Nat.{add-zero}
use native.Mathlib.Omega.{arith}
use lib.ListN.{length, take, length-append, replicate, get_or-replicate, length-replicate}
use lib.Seq.{take_at}
use borrow.Author.Tests.{le-ltb, lt-ltb}
use Rattle.account.proofs.KnownRows.{known, position_within}
use Rattle.account.specs.Known.{Known}
use Rattle.numbers.specs.Lists.{nth}
use Rattle.pairing.specs.Pairing.{PairedBy, PairedUp, PairingAsked}
use Rattle.pairing.specs.declared.Instalment.{Instalment}
use Rattle.rules.specs.declared.Tally.{Tally}
use Rattle.lines.proofs.LinesHeld.{take-lines}
use Rattle.lines.specs.LineNumbers.{lines_from, most_numbers, most_pair_numbers}
use Rattle.lines_and_total.proofs.ListingLaws.{left_same}
use Rattle.lines_and_total.specs.Listing.{AccountListed, Added, ContractsTo, PairsListed, RowsAsked, shown_left}
use Rattle.lines_and_total.specs.Settled.{Settled}
use Rattle.lines_and_total.specs.declared.Listed.{Listed}
use Rattle.rules.specs.Output.{premiums_for}
use Rattle.rules.proofs.Answers.{answer_read_lem, given_read}
use Rattle.rules.proofs.Counts.{made_below}
use Rattle.rules.proofs.LineLaws.{length-pair_lines, line_count_lem, lines_are, sum_pairs}
use Rattle.rules.proofs.MayPair.{apart}
use Rattle.rules.proofs.Rounds.{left_falls}
use Rattle.rules.proofs.Sums.{sum_over-append, sum_to_under}
use Rattle.rules.specs.File.{account_of}
use Rattle.rules.specs.Lines.{comes_to, entries_for, left_lines, left_with_blocked, line_amount, lines, lines_after, pair_lines, premium_answer, premiums, premiums_of, sum_over, total}
use Rattle.rules.specs.Pairs.{available, book_of, pairs_after}
use Rattle.rules.specs.Refusals.{file_read, refused_at}
use Rattle.rules.specs.declared.Layout.{Layout}
use Rattle.rules.specs.declared.Line.{Line}
use Rattle.rules.specs.declared.Refusal.{Refusal}
use Rattle.rules.specs.declared.Refusal.TheVariants.{ListTooShort}
use Rattle.std.specs.Prelude.{Result, Ok, Err}
use Rattle.std.specs.Result.{result_unwrap_or}
use Rattle.rules.specs.declared.Refused.{Refused}
use Rattle.rules.specs.declared.Tally.{Tally}

pub pairing_asks : (b : List ℕ) (l : Layout) (left numbers : List ℕ) → Known b l → length left ≡ 256 → most_pair_numbers ≤ length numbers
    → ContractsTo (account_of b l) left l.positions → PairingAsked b l (replicate 1280 0) left numbers
pairing_asks b l left numbers k el en f =
    record {
      table_new =
          record {
            file = k;
            room = omega (arith, length-replicate {A = ℕ} 1280 0);
            no_lines = λ v h. get_or-replicate {A = ℕ} 1280 (1024 + v) 0 0 (omega arith);
          };
      lefts = omega arith;
      room = omega arith;
      contracts = f;
    }

-- What the rows left ask, after n rounds.
pub rows_ask : (b : List ℕ) (l : Layout) (n : ℕ) (table left numbers : List ℕ) (r : Instalment) → Known b l → length left ≡ 256 → length numbers ≡ most_numbers
    → PairedUp (account_of b l) n 0 table left numbers r → RowsAsked b l table left numbers r.pairs
rows_ask b l n table left numbers r k el en up =
    let a = account_of b l in
    let p = up.paired in
    record {
      file = k;
      table_room = up.room;
      units = up.units;
      lefts = omega (arith, k.placed.positions_most);
      left_most = λ i h.
          let row = position_within b l k i h in
          omega (arith, p.left_is i h, left_falls (book_of a) (available a) (n + 0) i, row.blocked_most, row.q_most);
      room = omega arith;
      few =
          omega (
            arith,
            p.count_is,
            k.placed.positions_most,
            made_below (book_of a) (apart a) (available a) (n + 0),
            sum_to_under (λ i. min 1 (shown_left a (nth left) i)) 1 l.positions (λ i h. omega arith),
          );
      total_most = p.total_most;
    }

-- Numbers that begin with lines have the lines of fewer too.
first_lines : (numbers : List ℕ) (k : ℕ) (x y : List Line) (n : ℕ) → lines_from numbers n ≡ x ++ y → length x ≡ k → k ≤ n → lines_from numbers k ≡ x
first_lines numbers k x y n e len h = sym (take-lines numbers k n h) ∙ ap (take k) e ∙ take_at x y k len

-- The lines of the pairs alone.
pub pairs_listed : (b : List ℕ) (l : Layout) (count allowance : ℕ) (table left numbers : List ℕ) (r : Instalment) → length numbers ≡ most_pair_numbers
    → PairedUp (account_of b l) count allowance table left numbers r → PairsListed (account_of b l) count allowance numbers r
pairs_listed b l count allowance table left numbers r en up =
    record {
      first_is = up.first_is;
      count_is = up.paired.count_is;
      lines_are = up.paired.lines_are;
      numbers_length = en;
    }

-- All lines after n rounds, once the rows left are written after the pairs.
pub account_listed : (b : List ℕ) (l : Layout) (n : ℕ) (table left numbers numbers' : List ℕ) (r : Instalment) (t : Tally) → Known b l → length numbers ≡ most_numbers
    → PairedUp (account_of b l) n 0 table left numbers r → Added (left_lines (account_of b l) (shown_left (account_of b l) (nth left)) l.positions) numbers numbers' r.pairs t
    → AccountListed (account_of b l) n numbers' (record { first = r.first; lines = t })
account_listed b l n table left numbers numbers' r t k en up f =
    let a = account_of b l in
    let p : PairedBy n a left numbers r.pairs = subst (λ (m : ℕ). PairedBy m a left numbers r.pairs) (add-zero n) up.paired in
    let pairs = pair_lines a (pairs_after a n) in
    let shown = shown_left a (nth left) in
    let same = left_same a shown (left_with_blocked a n) l.positions (λ i h. ap (λ (x : ℕ). x + (a.position_at i).blocked) (p.left_is i h)) in
    let all : pairs ++ left_lines a shown l.positions ≡ lines_after a n = ap (λ x. pairs ++ x) same in
    let count : t.count ≡ length (lines_after a n) =
    omega (arith, f.count_is, p.count_is, length-pair_lines a (pairs_after a n), length-append pairs (left_lines a shown l.positions), ap length all)
    in
    let is : lines_from numbers' t.count ≡ pairs ++ left_lines a shown l.positions =
    f.lines_are ∙ ap (λ x. x ++ left_lines a shown l.positions) p.lines_are
    in
    record {
      first_is = up.first_is;
      count_is = count;
      lines_are = is ∙ all;
      pair_lines_lem =
          first_lines numbers' r.first pairs (left_lines a shown l.positions) t.count is
          (length-pair_lines a (pairs_after a n) ∙ sym up.first_is) (omega (arith, f.count_is, p.count_is, up.first_is));
      total_is =
          omega (
            arith,
            f.total_is,
            p.total_is,
            sum_pairs a line_amount (pairs_after a n),
            sum_over-append line_amount pairs (left_lines a shown l.positions),
            ap (sum_over line_amount) all,
          );
      total_most = omega (arith, f.total_most, f.count_is, p.total_most, count, line_count_lem a n, k.placed.positions_most);
      numbers_length = f.numbers_length ∙ en;
    }

pub premium_answered : (b : List ℕ) (x : Result Layout Refused) → file_read b ≡ x → premium_answer b ≡ premiums_of b x
unfolding premium_answer
premium_answered b x e = ap (premiums_of b) e

-- The premiums of a file, 0 where it is refused.
pub premiums_or_none : (b : List ℕ) → result_unwrap_or (premium_answer b) 0 ≡ premiums_for b (file_read b)
premiums_or_none b = ap (λ (x : Result ℕ Refused). result_unwrap_or x 0) (premium_answered b (file_read b) refl) ∙ by_reading (file_read b)
  where
    by_reading : (x : Result Layout Refused) → result_unwrap_or (premiums_of b x) 0 ≡ premiums_for b x
    by_reading (Err refusal) = refl
    by_reading (Ok l) = refl

module _ (b : List ℕ) (room : ℕ) (numbers : List ℕ) (en : length numbers ≡ most_numbers) where
  pub settled_refused : (w : Refusal) (i : ℕ) → file_read b ≡ refused_at w i → Settled b room numbers (refused_at w i)
  unfolding lines_from
  settled_refused w i e =
      record {
        answer_is = sym (answer_read_lem b room (refused_at w i) e);
        lines_are = sym (given_read b room (refused_at w i) e);
        count_most = omega arith;
        count_small = omega arith;
        numbers_length = en;
      }

  module _ (l : Layout) (e : file_read b ≡ Ok l) where
    -- Refusal 12: "given below 2 × p entries".
    pub settled_short : room < entries_for l.positions → Settled b room numbers (refused_at ListTooShort 0)
    unfolding lines_from
    settled_short h =
        let t = lt-ltb room (entries_for l.positions) h in
        record {
          answer_is = rw (answer_read_lem b room (Ok l) e, t);
          lines_are = rw (given_read b room (Ok l) e, t);
          count_most = omega arith;
          count_small = omega arith;
          numbers_length = en;
        }

    pub settled_total : (n : ℕ) (r : Listed) → entries_for l.positions ≤ room → AccountListed (account_of b l) l.positions numbers r → n ≡ premiums (account_of b l)
        → Settled b room numbers (comes_to r.lines.count (r.lines.total + n))
    unfolding total lines
    settled_total n r h f en' =
        let a = account_of b l in
        let s = le-ltb room (entries_for l.positions) h in
        let few : length (lines a) ≤ 2 * l.positions - 1 = rw (lines_are a) (line_count_lem a l.positions) in
        record {
          answer_is = rw (answer_read_lem b room (Ok l) e, s) (ap₂ comes_to f.count_is (ap₂ (λ x y. x + y) f.total_is en'));
          lines_are = rw (given_read b room (Ok l) e, s) f.lines_are;
          count_most = omega (arith, f.count_is, few);
          count_small = omega (arith, f.count_is, few, (known b l e).placed.positions_most);
          numbers_length = en;
        }
