-- The lines of an array of zeros, `[0; size]`, and a list after some of them are written: over plain lists and numbers.
-- Assumes nothing.
use Prim.Native.Nat.{ℕ, zero, suc, ◌+◌, ◌-◌, ◌*◌, ◌≤◌}
use mathlib.Core.List.{List, [], ◌∷◌, ◌++◌, append_assoc}
use mathlib.Core.Path.{◌≡◌, refl, sym, ap, ap₂, ◌∙◌}
use native.Mathlib.Numerals.{add-one}
use native.Mathlib.Omega.{arith}
use lib.ListN.{drop, length-replicate, replicate-append-replicate, take}
use lib.Seq.{drop_at}
use Rattle.lent.proofs.Zeros.{zeros, zeros_get}
use Rattle.lent.specs.Entries.{entries_written}
use Rattle.lines.specs.LineNumbers.{line_from, lines_from, numbers_per_line}
use Rattle.rules.specs.TakingApart.{zero_entries, zero_entry}
use Rattle.rules.specs.declared.Line.{Line}

zero_line : (size i : ℕ) → line_from (zeros size) i ≡ zero_entry
zero_line size i = rw (zeros_get size (numbers_per_line * i), zeros_get size (numbers_per_line * i + 1), zeros_get size (numbers_per_line * i + 2))

zero_lines : (size n : ℕ) → lines_from (zeros size) n ≡ zero_entries n
unfolding lines_from
zero_lines size zero = refl
zero_lines size (suc n) =
    ap₂ (λ (l : List Line) (x : Line). l ++ (x ∷ [])) (zero_lines size n) (zero_line size n)
    ∙ replicate-append-replicate n 1 zero_entry
    ∙ ap zero_entries (add-one n)

-- Lines m to n - 1 of the zeros written into a list.
pub zeros_written : (size m n : ℕ) (ys : List Line) → m ≤ n
    → entries_written (zeros size) m n ys ≡ take m ys ++ (zero_entries (n - m) ++ drop n ys)
unfolding entries_written
zeros_written size m n ys h =
    let sum : n ≡ m + (n - m) = omega (arith, h) in
    let parts : lines_from (zeros size) n ≡ zero_entries m ++ zero_entries (n - m) =
    zero_lines size n ∙ ap zero_entries sum ∙ sym (replicate-append-replicate m (n - m) zero_entry) in
    ap (λ (l : List Line). take m ys ++ drop m (l ++ drop n ys)) parts
    ∙ ap (λ (l : List Line). take m ys ++ drop m l) (append_assoc (zero_entries m) (zero_entries (n - m)) (drop n ys))
    ∙ ap (λ (l : List Line). take m ys ++ l) (drop_at (zero_entries m) _ m (length-replicate m zero_entry))
