-- Lines written one after the other: none, one more, and those of all rows with contracts left.
-- Assumes nothing.
use Prim.Native.Nat.{ℕ, zero, suc, ◌+◌, ◌≤◌, ◌<◌, min}
use mathlib.Core.Bool.{true, false, cond}
use mathlib.Core.List.{List, [], ◌∷◌, ◌++◌, append_assoc, append-nil}
use mathlib.Core.Logic.{◌⊎◌, inl, inr}
use mathlib.Core.Path.{◌≡◌, refl, sym, ap, ap₂, ◌∙◌}
use native.Mathlib.Nat.{eq-or-lt_of_le}
use native.Mathlib.Numerals.{add-one}
use native.Mathlib.Omega.{arith}
use lib.Dec.{ltb}
use lib.ListN.{length, length-append}
use borrow.Author.Tests.{le-ltb, lt-ltb}
use Rattle.lines.proofs.LinesHeld.{lines_more, lines_same}
use Rattle.lines.specs.LineNumbers.{LineWritten, lines_from}
use Rattle.numbers.specs.Lists.{nth}
use Rattle.lines_and_total.specs.Listing.{Added, RowAsked, RowsAsked, left_of, shown_left}
use Rattle.rules.specs.declared.Tally.{Tally}
use Rattle.rules.proofs.LineLaws.{length-left_lines}
use Rattle.rules.proofs.Sums.{sum_over-append, sum_to_more}
use Rattle.rules.specs.File.{Account, account_of}
use Rattle.rules.specs.Lines.{left_amount_at, left_line, left_lines, line_amount, sum_over, sum_to}
use Rattle.rules.specs.declared.Layout.{Layout}
use Rattle.rules.specs.declared.Line.{Line}

abbrev pub tally : ℕ → ℕ → Tally
tally count total = record { count = count; total = total }

abbrev pub left_entry : ℕ → ℕ → ℕ → Line
left_entry row q m = record { kind = 2; secondNumber = row; thirdNumber = q; fourthNumber = m; fifthNumber = 0 }

pub left_more : (a : Account) (left : ℕ → ℕ) (r : ℕ) → left_lines a left (r + 1) ≡ left_lines a left r ++ left_of a left r
unfolding left_lines
left_more a left r = rw add-one

-- The lines left depend on the rows' contracts alone.
pub left_same : (a : Account) (f g : ℕ → ℕ) (n : ℕ) → ((r : ℕ) → r < n → f r ≡ g r) → left_lines a f n ≡ left_lines a g n
unfolding left_lines
left_same a f g zero e = refl
left_same a f g (suc n) e =
    ap₂ (λ x y. x ++ y) (left_same a f g n (λ r l. e r (omega arith)))
    (ap (λ q. cond (ltb 0 q) (left_line a n q ∷ []) []) (e n (omega arith)))

sum_to_grows : (f : ℕ → ℕ) (m n : ℕ) → m ≤ n → sum_to f m ≤ sum_to f n
unfolding sum_to
sum_to_grows f m zero h = let e : m ≡ 0 = omega arith in rw e (omega arith)
sum_to_grows f m (suc n) h = go (eq-or-lt_of_le h) (sum_to_grows f m n)
  where
    go : (m ≡ suc n) ⊎ (m < suc n) → (m ≤ n → sum_to f m ≤ sum_to f n) → sum_to f m ≤ sum_to f n + f n
    go (inl e) again = rw e (omega arith)
    go (inr l) again = omega (arith, again (omega arith))

added_none : (numbers : List ℕ) (t : Tally) → Added [] numbers numbers t t
unfolding sum_over
added_none numbers t =
    record {
      count_is = omega arith;
      lines_are = sym (append-nil (lines_from numbers t.count));
      total_is = omega arith;
      total_most = omega arith;
      numbers_length = refl;
    }

added_one : (line : Line) (m : ℕ) (n n' : List ℕ) (t : Tally) → LineWritten t.count line n n' → length n' ≡ length n
    → m ≡ line_amount line → m ≤ 10_000_000_000_000_000 → Added (line ∷ []) n n' t (tally (t.count + 1) (t.total + m))
unfolding sum_over
added_one line m n n' t w len e most =
    record {
      count_is = omega arith;
      lines_are = lines_more n' t.count ∙ ap₂ (λ x y. x ++ (y ∷ [])) (lines_same n' n t.count w.before) w.line_is;
      total_is = omega (arith, e);
      total_most = omega arith;
      numbers_length = len;
    }

added_both : (x y : List Line) (n₀ n₁ n₂ : List ℕ) (t₀ t₁ t₂ : Tally) → Added x n₀ n₁ t₀ t₁ → Added y n₁ n₂ t₁ t₂ → Added (x ++ y) n₀ n₂ t₀ t₂
added_both x y n₀ n₁ n₂ t₀ t₁ t₂ f g =
    record {
      count_is = rw length-append (omega arith);
      lines_are = g.lines_are ∙ ap (λ l. l ++ y) f.lines_are ∙ append_assoc (lines_from n₀ t₀.count) x y;
      total_is = omega (arith, f.total_is, g.total_is, sum_over-append line_amount x y);
      total_most = rw length-append (omega arith);
      numbers_length = g.numbers_length ∙ f.numbers_length;
    }

-- A row without contracts left has no line. q is what the code read of them.
pub row_none : (a : Account) (left : ℕ → ℕ) (row q : ℕ) (n : List ℕ) (t : Tally) → q ≡ left row → q ≡ 0 → Added (left_of a left row) n n t t
row_none a left row q n t is e = let z : ltb 0 (left row) ≡ false = le-ltb 0 (left row) (omega (arith, is)) in rw z (added_none n t)

-- A row with contracts left has one.
pub row_one : (a : Account) (left : ℕ → ℕ) (row q m : ℕ) (n n' : List ℕ) (t : Tally) → q ≡ left row → (q ≡ 0 → ⊥)
    → m ≡ left_amount_at a row q → m ≤ 10_000_000_000_000_000
    → LineWritten t.count (left_entry row q m) n n' → length n' ≡ length n
    → Added (left_of a left row) n n' t (tally (t.count + 1) (t.total + m))
row_one a left row q m n n' t is some e most w len =
    let z : ltb 0 (left row) ≡ true = lt-ltb 0 (left row) (omega (arith, is)) in
    let amount : m ≡ left_amount_at a row (left row) = e ∙ ap (left_amount_at a row) is in
    let line = ap₂ (left_entry row) is amount in
    rw z (added_one (left_line a row (left row)) m n n' t (record { line_is = w.line_is ∙ line; before = w.before; after = w.after }) len amount most)

-- No row yet, and one row more.
pub rows_none : (a : Account) (left : ℕ → ℕ) (n : List ℕ) (t : Tally) → Added (left_lines a left 0) n n t t
unfolding left_lines
rows_none a left n t = added_none n t

pub rows_more : (a : Account) (left : ℕ → ℕ) (r : ℕ) (n₀ n₁ n₂ : List ℕ) (t₀ t₁ t₂ : Tally) → Added (left_lines a left r) n₀ n₁ t₀ t₁
    → Added (left_of a left r) n₁ n₂ t₁ t₂ → Added (left_lines a left (r + 1)) n₀ n₂ t₀ t₂
rows_more a left r n₀ n₁ n₂ t₀ t₁ t₂ f g = rw (left_more a left r) (added_both (left_lines a left r) (left_of a left r) n₀ n₁ n₂ t₀ t₁ t₂ f g)

pub rows_end : (a : Account) (left : ℕ → ℕ) (r p : ℕ) (n₀ n : List ℕ) (t₀ t : Tally) → r ≤ p → p ≤ r → Added (left_lines a left r) n₀ n t₀ t
    → Added (left_lines a left p) n₀ n t₀ t
rows_end a left r p n₀ n t₀ t h g f = let e : p ≡ r = omega arith in rw e f

-- What the next row asks.
pub row_asks : (b : List ℕ) (l : Layout) (table left n₀ n : List ℕ) (t₀ t : Tally) (row : ℕ) → RowsAsked b l table left n₀ t₀ → row < l.positions
    → Added (left_lines (account_of b l) (shown_left (account_of b l) (nth left)) row) n₀ n t₀ t → RowAsked b l table left n t row
row_asks b l table left n₀ n t₀ t row ok h f =
    record {
      file = ok.file;
      row_below = h;
      table_room = ok.table_room;
      units = ok.units;
      lefts = ok.lefts;
      left_most = ok.left_most row h;
      room = omega (arith, ok.room, f.numbers_length);
      few =
          omega (
            arith,
            ok.few,
            f.count_is,
            length-left_lines (account_of b l) (shown_left (account_of b l) (nth left)) row,
            sum_to_more (λ r. min 1 (shown_left (account_of b l) (nth left) r)) row,
            sum_to_grows (λ r. min 1 (shown_left (account_of b l) (nth left) r)) (row + 1) l.positions (omega arith),
          );
      total_most = omega (arith, ok.total_most, f.count_is, f.total_most);
    }
