-- The lines of the text, put word by word.
-- Assumes nothing.
use Prim.Native.Nat.{ℕ, ◌+◌, ◌*◌, ◌≤◌}
use mathlib.Core.List.{List, [], ◌∷◌, ◌++◌, append_assoc, append-nil}
use mathlib.Core.Path.{◌≡◌, sym, ap, subst, ◌∙◌}
use native.Mathlib.Numerals.{add-one}
use native.Mathlib.Omega.{arith}
use borrow.Author.Tests.{eq-eqb, ne_eqb}
use Rattle.lines.specs.LineNumbers.{line_from, lines_from}
use Rattle.rules.specs.Output.{left_text, left_word, line_feed, line_text, lines_text, number_text, pair_text, pair_word, premium_word, refused_text, refused_word, total_word, totals_text}
use Rattle.rules.specs.declared.Line.{Line}
use Rattle.statement.proofs.PutLaws.{put_none, put_then}
use Rattle.statement.specs.Puts.{Put}
use Rattle.statement.specs.Sizes.{most_line_text, most_number_text, most_refused_text, most_totals_text}

module _ {t0 t1 t2 t3 t4 t5 t6 : List ℕ} {at p1 p2 p3 p4 p5 end : ℕ} (x : Line) where
  pub pair_put : Put t0 t1 at p1 pair_word → Put t1 t2 p1 p2 (number_text x.secondNumber) → Put t2 t3 p2 p3 (number_text x.thirdNumber)
      → Put t3 t4 p3 p4 (number_text x.fourthNumber) → Put t4 t5 p4 p5 (number_text x.fifthNumber) → Put t5 t6 p5 end line_feed
      → p2 ≤ p1 + most_number_text → p3 ≤ p2 + most_number_text → p4 ≤ p3 + most_number_text → p5 ≤ p4 + most_number_text
      → Put t0 t6 at end (pair_text x) × (end ≤ at + most_line_text)
  unfolding pair_text
  pair_put a b c d e f i j k l =
      (put_then _ _ (put_then _ _ (put_then _ _ (put_then _ _ (put_then _ _ a b) c) d) e) f, omega (arith, a.end_is, f.end_is, i, j, k, l))

module _ {t0 t1 t2 t3 t4 t5 : List ℕ} {at p1 p2 p3 p4 end : ℕ} (x : Line) where
  pub left_put : Put t0 t1 at p1 left_word → Put t1 t2 p1 p2 (number_text x.secondNumber) → Put t2 t3 p2 p3 (number_text x.thirdNumber)
      → Put t3 t4 p3 p4 (number_text x.fourthNumber) → Put t4 t5 p4 end line_feed
      → p2 ≤ p1 + most_number_text → p3 ≤ p2 + most_number_text → p4 ≤ p3 + most_number_text
      → Put t0 t5 at end (left_text x) × (end ≤ at + most_line_text)
  unfolding left_text
  left_put a b c d e i j k =
      (put_then _ _ (put_then _ _ (put_then _ _ (put_then _ _ a b) c) d) e, omega (arith, a.end_is, e.end_is, i, j, k))

module _ {old new : List ℕ} {at end : ℕ} (x : Line) where
  pub line_put_pair : x.kind ≡ 1 → Put old new at end (pair_text x) × (end ≤ at + most_line_text) → Put old new at end (line_text x) × (end ≤ at + most_line_text)
  line_put_pair e h = rw (eq-eqb x.kind 1 e) h

  pub line_put_left : (x.kind ≡ 1 → ⊥) → Put old new at end (left_text x) × (end ≤ at + most_line_text) → Put old new at end (line_text x) × (end ≤ at + most_line_text)
  line_put_left e h = rw (ne_eqb x.kind 1 e) h

-- One line more.
text_more : (l : List Line) (x : Line) → lines_text (l ++ (x ∷ [])) ≡ lines_text l ++ line_text x
unfolding lines_text
text_more [] x = append-nil (line_text x)
text_more (y ∷ l) x = ap (λ (z : List ℕ). line_text y ++ z) (text_more l x) ∙ sym (append_assoc (line_text y) (lines_text l) (line_text x))

pub no_lines : (text numbers : List ℕ) → Put text text 0 0 (lines_text (lines_from numbers 0))
unfolding lines_text lines_from
no_lines text numbers = put_none text

module _ {old now new : List ℕ} {mid end : ℕ} (numbers : List ℕ) (i : ℕ) where
  pub next_line : (x : Line) → x ≡ line_from numbers i → Put old now 0 mid (lines_text (lines_from numbers i)) → Put now new mid end (line_text x)
      → Put old new 0 end (lines_text (lines_from numbers (i + 1)))
  unfolding lines_from
  next_line x e a b =
      subst (λ (j : ℕ). Put old new 0 end (lines_text (lines_from numbers j))) (sym (add-one i))
      (subst (Put old new 0 end) (sym (text_more (lines_from numbers i) (line_from numbers i))) (put_then _ _ a (subst (λ (y : Line). Put now new mid end (line_text y)) e b)))

module _ {t0 t1 t2 t3 t4 t5 t6 : List ℕ} {at p1 p2 p3 p4 p5 end : ℕ} (premium sum : ℕ) where
  pub totals_put : Put t0 t1 at p1 premium_word → Put t1 t2 p1 p2 (number_text premium) → Put t2 t3 p2 p3 line_feed
      → Put t3 t4 p3 p4 total_word → Put t4 t5 p4 p5 (number_text sum) → Put t5 t6 p5 end line_feed
      → p2 ≤ p1 + most_number_text → p5 ≤ p4 + most_number_text → Put t0 t6 at end (totals_text premium sum) × (end ≤ at + most_totals_text)
  unfolding totals_text
  totals_put a b c d e f i j =
      (put_then _ _ (put_then _ _ (put_then _ _ (put_then _ _ (put_then _ _ a b) c) d) e) f, omega (arith, a.end_is, c.end_is, d.end_is, f.end_is, i, j))

module _ {t0 t1 t2 t3 t4 : List ℕ} {p1 p2 p3 end : ℕ} (n row : ℕ) where
  pub refused_put : Put t0 t1 0 p1 refused_word → Put t1 t2 p1 p2 (number_text n) → Put t2 t3 p2 p3 (number_text row)
      → Put t3 t4 p3 end line_feed → p2 ≤ p1 + most_number_text → p3 ≤ p2 + most_number_text → Put t0 t4 0 end (refused_text n row) × (end ≤ most_refused_text)
  unfolding refused_text
  refused_put a b c d i j =
      (put_then _ _ (put_then _ _ (put_then _ _ a b) c) d, omega (arith, a.end_is, d.end_is, i, j))

-- All lines.
pub whole : {old new : List ℕ} {end : ℕ} (numbers : List ℕ) (count i : ℕ) → i ≡ count
    → Put old new 0 end (lines_text (lines_from numbers i)) × (end ≤ most_line_text * i)
    → Put old new 0 end (lines_text (lines_from numbers count)) × (end ≤ most_line_text * count)
whole {old} {new} {end} numbers count i e h =
    subst (λ (j : ℕ). Put old new 0 end (lines_text (lines_from numbers j)) × (end ≤ most_line_text * j)) e h
