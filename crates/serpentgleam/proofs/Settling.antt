-- What the core settles is what `serpentgleam_margin` promises, over plain lists and numbers.
-- Assumes nothing.
use Prim.Native.Nat.{ℕ, ◌*◌, ◌≤◌}
use mathlib.Core.List.{List, ◌++◌}
use mathlib.Core.Path.{◌≡◌, sym, ap, ◌∙◌}
use native.Mathlib.Omega.{arith}
use lib.ListN.{drop, length}
use Rattle.lent.proofs.EntryLaws.{written_first}
use Rattle.lent.specs.Entries.{entries_written}
use Rattle.lines.proofs.LinesHeld.{lines_count}
use Rattle.lines.specs.LineNumbers.{line_count, lines_from, numbers_per_line}
use Rattle.lines_and_total.specs.Settled.{Settled}
use Rattle.rules.specs.Lines.{lines_given, list_after}
use Rattle.rules.specs.declared.Line.{Line}
use Rattle.std.specs.Prelude.{Result}
use Rattle.rules.specs.declared.Refused.{Refused}
use Rattle.rules.specs.declared.Tally.{Tally}

module _ (b : List ℕ) (out : List Line) (numbers : List ℕ) (r : Result Tally Refused) (s : Settled b (length out) numbers r) (n : ℕ) (e : n ≡ line_count r) where
  -- The lines fit into the list and stand in the numbers.
  pub fits : (0 ≤ n) × (n ≤ length out) × (numbers_per_line * n ≤ length numbers)
  fits = (omega arith, omega (arith, e, s.count_most), omega (arith, e, s.count_small, s.numbers_length))

  count_is : line_count r ≡ length (lines_given b (length out))
  count_is = sym (lines_count numbers (line_count r)) ∙ ap length s.lines_are

  -- Written from entry 0 on, they and the entries after them are the list afterwards.
  pub list_is : entries_written numbers 0 n out ≡ list_after b out
  unfolding list_after
  list_is =
      written_first numbers n out
      ∙ ap (λ (k : ℕ). lines_from numbers k ++ drop k out) e
      ∙ ap (λ (l : List Line). l ++ drop (line_count r) out) s.lines_are
      ∙ ap (λ (k : ℕ). lines_given b (length out) ++ drop k out) count_is
