-- One pair: its line, the two quantities lowered, its amount.
-- Assumes nothing.
use Prim.Native.Nat.{ℕ, ◌-◌, ◌≤◌, ◌<◌, min}
use mathlib.Core.Bool.{Bool, true, false, cond, ◌||◌}
use mathlib.Core.List.{List}
use mathlib.Core.Path.{◌≡◌, refl, sym, ap, ap₂, ◌∙◌}
use native.Mathlib.Omega.{arith}
use lib.Dec.{eqb}
use lib.ListN.{length, set, length-set}
use lib.Seq.{get_or-set_other, get_or-set_same}
use borrow.Author.Tests.{eqb-false, eqb-true}
use Rattle.pairing.proofs.FileFacts.{factor_most}
use Rattle.account.specs.Known.{Known}
use Rattle.numbers.specs.Lists.{nth}
use Rattle.pairing.specs.Pairing.{PairAsked, PairWritten}
use Rattle.lines.specs.LineNumbers.{LineWritten}
use Rattle.rules.specs.File.{account_of, position_row, series_of_row, series_row}
use Rattle.rules.specs.OnePosition.{amount_of}
use Rattle.rules.specs.Pairs.{taken}
use Rattle.rules.specs.declared.Layout.{Layout}
use Rattle.rules.specs.declared.Line.{Line}
use Rattle.rules.specs.declared.PositionRow.{PositionRow}
use Rattle.rules.specs.declared.SeriesRow.{SeriesRow}
use Rattle.std.specs.Prelude.{Some}

-- "It takes the smaller quantity left", from both rows.
taken_is : (left : List ℕ) (w h q : ℕ) → (w ≡ h → ⊥) → w < length left → h < length left → q ≡ min (nth left w) (nth left h)
    → (r : ℕ) → nth (set (set left w (nth left w - q)) h (nth left h - q)) r ≡ taken (nth left) (Some (w, h)) r
taken_is left w h q two lw lh eq r = go (eqb r w) (eqb r h) refl refl
  where
    go : (x y : Bool) → eqb r w ≡ x → eqb r h ≡ y
        → nth (set (set left w (nth left w - q)) h (nth left h - q)) r ≡ cond (x || y) (nth left r - min (nth left w) (nth left h)) (nth left r)
    go true true a b = absurd (two (sym (eqb-true r w a) ∙ eqb-true r h b))
    go true false a b =
        rw (eqb-true r w a)
        (get_or-set_other (set left w (nth left w - q)) h w (nth left h - q) 0 two
        ∙ get_or-set_same left w (nth left w - q) 0 lw
        ∙ ap (λ z. nth left w - z) eq)
    go false true a b =
        rw (eqb-true r h b)
        (get_or-set_same (set left w (nth left w - q)) h (nth left h - q) 0 (simp length-set lh)
        ∙ ap (λ z. nth left h - z) eq)
    go false false a b =
        get_or-set_other (set left w (nth left w - q)) h r (nth left h - q) 0 (eqb-false r h b)
        ∙ get_or-set_other left w r (nth left w - q) 0 (eqb-false r w a)

-- The factor of a row's series as the code reads it.
pub amount_is : (b : List ℕ) (l : Layout) (w q u r : ℕ) (row : PositionRow) (s : SeriesRow) → row ≡ position_row b l w
    → s ≡ series_row b l row.series → r ≡ amount_of u s.m q → r ≡ amount_of u (series_of_row (account_of b l) w).m q
amount_is b l w q u r row s er es e =
    let m : s.m ≡ (series_of_row (account_of b l) w).m = ap (λ (x : SeriesRow). x.m) (es ∙ ap (λ (x : PositionRow). series_row b l x.series) er) in
    e ∙ ap (λ y. amount_of u y q) m

abbrev line_of : ℕ → ℕ → ℕ → ℕ → Line
line_of w h q m = record { kind = 1; secondNumber = w; thirdNumber = h; fourthNumber = q; fifthNumber = m }

-- One pair made.
pub pair_written : (b : List ℕ) (l : Layout) (left numbers : List ℕ) (k w h spread : ℕ) → PairAsked b l left numbers k w h spread
    → (q m : ℕ) → q ≡ min (nth left w) (nth left h) → m ≡ amount_of spread (series_of_row (account_of b l) w).m q → m ≤ 10_000_000_000_000_000
    → (numbers' : List ℕ) → LineWritten k (line_of w h q m) numbers numbers' → length numbers' ≡ length numbers
    → PairWritten (account_of b l) k w h left numbers (set (set left w (nth left w - q)) h (nth left h - q)) numbers' m
pair_written b l left numbers k w h spread ok q m eq em most numbers' f len =
    let is = em ∙ ap₂ (λ x z. amount_of x (series_of_row (account_of b l) w).m z) ok.spread_is eq in
    record {
      amount_is = is;
      amount_most = most;
      left_is = λ r lr. taken_is left w h q ok.two (omega (arith, ok.lefts, ok.written)) (omega (arith, ok.lefts, ok.held)) eq r;
      line_is = f.line_is ∙ ap₂ (line_of w h) eq is;
      before = f.before;
      left_length = simp length-set;
      numbers_length = len;
    }

-- The factor of a pair's series.
pub factor_within : (b : List ℕ) (l : Layout) (w : ℕ) (row : PositionRow) (s : SeriesRow) → Known b l → w < l.positions
    → row ≡ position_row b l w → s ≡ series_row b l row.series → s.m ≤ 1_000
factor_within b l w row s ok lw er es = rw (es, er) (factor_most b l ok w lw)
