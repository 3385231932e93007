-- Laws of the entries that are compared with lines of the numbers and of those that are written into a list: over plain
-- lists and numbers.
-- Assumes nothing.
use Prim.Native.Nat.{ℕ, suc, ◌+◌, ◌-◌, ◌<◌, ◌≤◌}
use mathlib.Core.Bool.{true, ◌&&◌}
use mathlib.Core.List.{List, [], ◌∷◌, ◌++◌}
use mathlib.Core.Path.{◌≡◌, refl, sym, ap, ◌∙◌, subst}
use native.Mathlib.Nat.{suc-add, zero-add}
use native.Mathlib.Numerals.{add-one}
use native.Mathlib.Omega.{arith}
use lib.ListN.{length, set, drop, take, get_or, length-append, length-drop, take-append-drop}
use lib.Seq.{append_snoc, drop_at, drop-cons, drop-set-add, length-take-le, set_at}
use Rattle.lent.specs.Entries.{entries_written}
use Rattle.lines.proofs.LinesHeld.{lines_count, lines_more}
use Rattle.lines.specs.LineNumbers.{line_from, lines_from}
use Rattle.rules.proofs.InstalmentLaws.{begins_more, begins_none}
use Rattle.rules.specs.Instalments.{begins_with, same_line}
use Rattle.rules.specs.declared.Line.{Line}

-- A store behind the first part of a list is a store into its second part.
module _ {A : Type 0} where
  set_append_add : (p q : List A) (j : ℕ) (a : A) → set (p ++ q) (length p + j) a ≡ p ++ set q j a
  set_append_add [] q j a = ap (λ (k : ℕ). set q k a) (zero-add j)
  set_append_add (x ∷ p) q j a = ap (λ (k : ℕ). set (x ∷ p ++ q) k a) (suc-add (length p) j) ∙ ap (λ (l : List A). x ∷ l) (set_append_add p q j a)

module _ (numbers : List ℕ) where
  -- From entry 0: the first n lines of the numbers, and the entries after them.
  pub written_first : (n : ℕ) (ys : List Line) → entries_written numbers 0 n ys ≡ lines_from numbers n ++ drop n ys
  unfolding entries_written
  written_first n ys = refl

  module _ (m : ℕ) (ys : List Line) where
    -- Before the first store.
    pub written_none : entries_written numbers m m ys ≡ ys
    unfolding entries_written
    written_none = ap (λ (r : List Line). take m ys ++ r) (drop_at (lines_from numbers m) (drop m ys) m (lines_count numbers m)) ∙ take-append-drop m ys

    pub written_length : (n : ℕ) → m ≤ n → n ≤ length ys → length (entries_written numbers m n ys) ≡ length ys
    unfolding entries_written
    written_length n l k =
        omega (
          arith,
          length-append (take m ys) (drop m (lines_from numbers n ++ drop n ys)),
          length-take-le m ys (omega arith),
          length-drop m (lines_from numbers n ++ drop n ys),
          length-append (lines_from numbers n) (drop n ys),
          lines_count numbers n,
          length-drop n ys,
        )

    -- One store more, where all entries before n are written.
    one_more : (n : ℕ) → n < length ys → set (lines_from numbers n ++ drop n ys) n (line_from numbers n) ≡ lines_from numbers (n + 1) ++ drop (n + 1) ys
    unfolding lines_from
    one_more n l =
        rw (add-one n)
        (ap (λ (t : List Line). set (lines_from numbers n ++ t) n (line_from numbers n)) (drop-cons ys n (line_from numbers n) l)
        ∙ set_at (lines_from numbers n) (get_or ys n (line_from numbers n)) (drop (suc n) ys) (line_from numbers n) n (lines_count numbers n)
        ∙ sym (append_snoc (lines_from numbers n) (line_from numbers n) (drop (suc n) ys)))

    -- One store more.
    pub written_more : (n : ℕ) → m ≤ n → n < length ys → set (entries_written numbers m n ys) n (line_from numbers n) ≡ entries_written numbers m (n + 1) ys
    unfolding entries_written
    written_more n l k =
        subst (λ (i : ℕ). set (take m ys ++ drop m before) i line ≡ take m ys ++ set (drop m before) (n - m) line) at (set_append_add (take m ys) (drop m before) (n - m) line)
        ∙ ap (λ (r : List Line). take m ys ++ r)
        (sym (drop-set-add m before (n - m) line) ∙ subst (λ (i : ℕ). drop m (set before i line) ≡ drop m (lines_from numbers (n + 1) ++ drop (n + 1) ys)) (sym place) (ap (drop m) (one_more n k)))
      where
        before : List Line
        before = lines_from numbers n ++ drop n ys

        line : Line
        line = line_from numbers n

        at : length (take m ys) + (n - m) ≡ n
        at = omega (arith, l, length-take-le m ys (omega (arith, l, k)))

        place : m + (n - m) ≡ n
        place = omega (arith, l)

-- The list begins with no lines of the numbers, and with one more where its next entry is that line.
module _ (numbers : List ℕ) (ys : List Line) where
  pub alike_none : true ≡ begins_with (lines_from numbers 0) ys
  unfolding lines_from
  alike_none = sym (begins_none ys)

  pub alike_more : (i : ℕ) (d : Line) → i < length ys
      → (begins_with (lines_from numbers i) ys && same_line (line_from numbers i) (get_or ys i d)) ≡ begins_with (lines_from numbers (i + 1)) ys
  alike_more i d l =
      ap (λ (k : ℕ). begins_with (lines_from numbers i) ys && same_line (line_from numbers i) (get_or ys k d)) (sym (lines_count numbers i))
      ∙ sym (begins_more (lines_from numbers i) (line_from numbers i) d ys (subst (λ (k : ℕ). k < length ys) (sym (lines_count numbers i)) l))
      ∙ ap (λ (x : List Line). begins_with x ys) (sym (lines_more numbers i))
