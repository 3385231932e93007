-- The rounds: none, one more, the last.
-- Assumes nothing.
use Prim.Native.Nat.{ℕ, ◌+◌, ◌-◌, ◌/◌, ◌%◌, ◌≤◌, ◌<◌}
use mathlib.Core.List.{List, [], ◌∷◌, ◌++◌}
use mathlib.Core.Path.{◌≡◌, refl, sym, ap, ap₂, subst, ◌∙◌}
use native.Mathlib.Nat.{add-sub_of_le, zero-add}
use native.Mathlib.Omega.{arith}
use lib.ListN.{length, length-append}
use Rattle.account.specs.Known.{Known}
use Rattle.lanes.proofs.FileFacts.{Ranged, ranged}
use Rattle.lanes.specs.Keys.{none, table_size}
use Rattle.lanes.specs.Marks.{Units}
use Rattle.numbers.specs.Lists.{nth}
use Rattle.pairing.proofs.FileFacts.{row_within}
use Rattle.pairing.proofs.LeastLaws.{least_told, nothing, picked, standings_fall}
use Rattle.pairing.specs.Cursors.{Usable}
use Rattle.pairing.specs.Standings.{BestRank, Lines, Standings}
use Rattle.pairing.specs.Pairing.{PairAsked, PairWritten, PairedBy, PairedUp, RoundsMade, pair_of}
use Rattle.rules.specs.declared.Tally.{Tally}
use Rattle.lines.proofs.LinesHeld.{lines_more, lines_same}
use Rattle.lines.specs.LineNumbers.{lines_from, most_pair_numbers}
use Rattle.rules.proofs.Counts.{bound, open_most, room, taken_most}
use Rattle.rules.proofs.InstalmentLaws.{after_same, first_count, left_same}
use Rattle.rules.proofs.LineLaws.{pair_lines-append}
use Rattle.rules.proofs.MayPair.{apart}
use Rattle.rules.proofs.Rounds.{left_falls, left_more, made_ended, made_more}
use Rattle.rules.proofs.Search.{choice_allowed, choice_same}
use Rattle.rules.proofs.Sums.{sum_over-append}
use Rattle.rules.specs.File.{Account, account_of}
use Rattle.rules.specs.Lines.{pair_lines, spread_amount, sum_over}
use Rattle.rules.specs.Pairs.{available, book_of, choice, left_after, made_after, made_by, pairs_after, taken}
use Rattle.rules.specs.declared.Layout.{Layout}
use Rattle.std.specs.Prelude.{Some, None}
use Rattle.rules.specs.declared.Tally.{Tally}

abbrev tally : ℕ → ℕ → Tally
tally k total = record { count = k; total = total }

module _ (a : Account) where
  -- Before the first round.
  pub began : (left numbers : List ℕ) → ((r : ℕ) → r < a.positions → nth left r ≡ available a r)
      → PairedBy 0 a left numbers (tally 0 0)
  unfolding left_after made_after sum_over pair_lines lines_from
  began left numbers same =
      record {
        count_is = refl;
        total_is = refl;
        total_most = omega arith;
        left_is = same;
        lines_are = refl;
      }

  -- Rounds that make the same pairs.
  paired_same : (m n : ℕ) (left numbers : List ℕ) (t : Tally) → pairs_after a m ≡ pairs_after a n → PairedBy m a left numbers t → PairedBy n a left numbers t
  paired_same m n left numbers t same f =
      record {
        count_is = f.count_is ∙ ap length same;
        total_is = f.total_is ∙ ap (sum_over (spread_amount a)) same;
        total_most = f.total_most;
        left_is = λ r l. f.left_is r l ∙ left_same a m n r same;
        lines_are = f.lines_are ∙ ap (pair_lines a) same;
      }

  -- The first `count` rounds and then as many as allowed.
  pub both : (count allowance : ℕ) (table left₁ numbers₁ left numbers : List ℕ) (first t : Tally)
      → PairedBy (0 + count) a left₁ numbers₁ first → PairedBy (first.count + allowance) a left numbers t → Units a table → table_size ≤ length table
      → PairedUp a count allowance table left numbers (record { first = first.count; pairs = t })
  both count allowance table left₁ numbers₁ left numbers first t f g units room =
      record {
        first_is = f.count_is ∙ ap (λ (n : ℕ). length (pairs_after a n)) (zero-add count);
        paired =
            paired_same (first.count + allowance) (count + allowance) left numbers t
            (after_same a (first.count + allowance) (count + allowance)
            (omega (arith, f.count_is, first_count a (0 + count), first_count a (first.count + allowance), first_count a (count + allowance)))) g;
        units = units;
        room = room;
      }

  -- No more is allowed.
  pub rounds_over : (left numbers table tree places : List ℕ) (k total n : ℕ) → PairedBy k a left numbers (tally k total)
      → Standings a left table tree places → k ≡ n → RoundsMade n a left numbers table tree places (tally k total)
  rounds_over left numbers table tree places k total n f standings e =
      record { paired = subst (λ (m : ℕ). PairedBy m a left numbers (tally k total)) e f; one_each = f; standings = standings }

  -- An account without rows has no pairs.
  pub no_rows : (count allowance : ℕ) (table left numbers : List ℕ) → a.positions ≡ 0 → table_size ≤ length table
      → PairedUp a count allowance table left numbers (record { first = 0; pairs = tally 0 0 })
  no_rows count allowance table left numbers empty room =
      let none : (n : ℕ) → length (pairs_after a n) ≡ 0 = λ n. omega (arith, bound (book_of a) (available a) n) in
      record {
        first_is = sym (none count);
        paired =
            paired_same 0 (count + allowance) left numbers (tally 0 0) (after_same a 0 (count + allowance) (none 0 ∙ sym (none (count + allowance))))
            (began left numbers (λ r l. absurd (omega (arith, empty))));
        units = λ r l. absurd (omega (arith, empty));
        room = room;
      }

  module _ (k total : ℕ) (left numbers : List ℕ) (f : PairedBy k a left numbers (tally k total)) where
    now_choice : choice (book_of a) (left_after (book_of a) k (available a)) ≡ choice (book_of a) (nth left)
    now_choice = sym (choice_same (book_of a) (nth left) (left_after (book_of a) k (available a)) f.left_is)

    -- Where no pair is found, further rounds change nothing.
    stopped : choice (book_of a) (nth left) ≡ None → (n : ℕ) → k ≤ n → PairedBy n a left numbers (tally k total)
    stopped e n few =
        paired_same k n left numbers (tally k total)
        (sym (ap (λ m. pairs_after a m) (sym (add-sub_of_le few)) ∙ made_ended (book_of a) k (n - k) (available a) (now_choice ∙ e))) f

    module _ (w h : ℕ) (e : choice (book_of a) (nth left) ≡ Some (w, h)) where
      found : choice (book_of a) (left_after (book_of a) k (available a)) ≡ Some (w, h)
      found = now_choice ∙ e

      rounds_left : k + 2 ≤ a.positions
      rounds_left = omega (arith, room (book_of a) (apart a) (available a) k found, open_most (book_of a) (available a))

      made_is : made_after (book_of a) (k + 1) (available a) ≡ made_after (book_of a) k (available a) ++ (pair_of left w h ∷ [])
      made_is =
          let at = choice_allowed (book_of a) (nth left) e in
          made_more (book_of a) k (available a)
          ∙ ap (λ c. made_after (book_of a) k (available a) ++ made_by (left_after (book_of a) k (available a)) c) found
          ∙ rw (f.left_is w at.written_below, f.left_is h at.held_below) refl

      left_now : (r : ℕ) → r < a.positions → left_after (book_of a) (k + 1) (available a) r ≡ taken (nth left) (Some (w, h)) r
      left_now r l =
          let at = choice_allowed (book_of a) (nth left) e in
          ap (λ (g : ℕ → ℕ). g r) (left_more (book_of a) k (available a))
          ∙ ap (λ c. taken (left_after (book_of a) k (available a)) c r) found
          ∙ rw (f.left_is r l, f.left_is w at.written_below, f.left_is h at.held_below) refl

      -- One more round.
      turned : (left' numbers' : List ℕ) (m : ℕ) → PairWritten a k w h left numbers left' numbers' m
          → PairedBy (k + 1) a left' numbers' (tally (k + 1) (total + m))
      unfolding sum_over pair_lines
      turned left' numbers' m p =
          record {
            count_is = rw made_is (rw length-append (omega (arith, f.count_is)));
            total_is =
                rw made_is
                (omega (
                  arith,
                  f.total_is,
                  p.amount_is,
                  sum_over-append (spread_amount a) (made_after (book_of a) k (available a)) (pair_of left w h ∷ []),
                ));
            total_most = omega (arith, f.total_most, p.amount_most);
            left_is = λ r l. p.left_is r l ∙ sym (left_now r l);
            lines_are =
                lines_more numbers' k
                ∙ ap₂ (λ x y. x ++ (y ∷ [])) (lines_same numbers' numbers k p.before ∙ f.lines_are) p.line_is
                ∙ sym (ap (pair_lines a) made_is ∙ pair_lines-append a (made_after (book_of a) k (available a)) (pair_of left w h ∷ []));
          }

pub still_standing : (a : Account) → Ranged a → (left left' numbers numbers' table tree places : List ℕ) (k w h m : ℕ)
    → PairWritten a k w h left numbers left' numbers' m → Standings a left table tree places → Standings a left' table tree places
still_standing a ok left left' numbers numbers' table tree places k w h m p =
    standings_fall a ok left left' table tree places (λ r l. omega (arith, p.left_is r l, taken_most (nth left) (Some (w, h)) r))

-- One turn of the code's loop, with the least rank m.
module _ (b : List ℕ) (l : Layout) (known : Known b l) (left numbers table tree places : List ℕ) (k total : ℕ)
    (f : PairedBy k (account_of b l) left numbers (tally k total)) (lines : Lines (account_of b l) table)
    (m : ℕ) (best : BestRank (account_of b l) left table tree places m) where
  ok : Known b l
  ok = known

  usable : Usable (account_of b l) left
  usable r lr = omega (arith, f.left_is r lr, left_falls (book_of (account_of b l)) (available (account_of b l)) k r)

  pub round_stops : none ≤ m → (n : ℕ) → k ≤ n → RoundsMade n (account_of b l) left numbers table tree places (tally k total)
  round_stops s n few =
      record { paired = stopped (account_of b l) k total left numbers f (nothing (account_of b l) (ranged b l ok) left table tree places lines best.standings usable (rw best.least at s)) n few; one_each = f; standings = best.standings }

  module _ (s : m < none) where
    picks : choice (book_of (account_of b l)) (nth left) ≡ Some ((m / 256 % 256), (m % 256))
    picks =
        rw best.least
        (picked (account_of b l) (ranged b l ok) left table tree places lines best.standings (rw best.least at s) usable (rw best.least at (best.settled s)))

    most : (r : ℕ) → r < l.positions → nth left r ≤ 100_000
    most r lr =
        omega (arith, usable r lr, (row_within b l ok r lr).q_most)

    pub round_room : k + 2 ≤ l.positions
    round_room = rounds_left (account_of b l) k total left numbers f (m / 256 % 256) (m % 256) picks

    pub round_few : l.positions ≤ 256
    round_few = ok.placed.positions_most

    pub round_asks : 256 ≤ length left → most_pair_numbers ≤ length numbers → PairAsked b l left numbers k (m / 256 % 256) (m % 256) (nth places (512 + m / 256 % 256))
    round_asks long wide =
        let at = choice_allowed (book_of (account_of b l)) (nth left) picks in
        record {
          file = ok;
          written = at.written_below;
          held = at.held_below;
          two = apart (account_of b l) (m / 256 % 256) (m % 256) at.may_pair_lem;
          may_pair_lem = at.may_pair_lem;
          spread_is =
              rw best.least
              (least_told (account_of b l) (ranged b l ok) left table tree places lines best.standings (rw best.least at s)
              (rw best.least at (best.settled s).told)).spread_is;
          written_most = most (m / 256 % 256) at.written_below;
          held_most = most (m % 256) at.held_below;
          lefts = omega (arith, round_few);
          room = omega (arith, round_room, round_few);
        }

    pub round_turns : (left' numbers' : List ℕ) (amount : ℕ)
        → PairWritten (account_of b l) k (m / 256 % 256) (m % 256) left numbers left' numbers' amount
        → PairedBy (k + 1) (account_of b l) left' numbers' (tally (k + 1) (total + amount))
    round_turns = turned (account_of b l) k total left numbers f (m / 256 % 256) (m % 256) picks
