-- The text of a file's margin, from the answer and its lines.
-- Assumes nothing.
use Prim.Native.Nat.{ℕ, ◌+◌, ◌*◌, ◌≤◌}
use mathlib.Core.List.{List}
use mathlib.Core.Path.{◌≡◌, sym, ap, subst, ◌∙◌}
use native.Mathlib.Omega.{arith}
use Rattle.lines.specs.LineNumbers.{line_count, lines_from}
use Rattle.lines_and_total.specs.Settled.{Settled}
use Rattle.rules.specs.Lines.{comes_to, lines_given, margin_answer, most_lines}
use Rattle.rules.specs.Output.{answer_text, lines_text, margin_text, premiums_for, refused_text, totals_text}
use Rattle.rules.specs.Refusals.{file_read, number, refused_at}
use Rattle.rules.specs.declared.Refusal.{Refusal}
use Rattle.statement.proofs.PutLaws.{put_then}
use Rattle.statement.specs.Puts.{Put}
use Rattle.statement.specs.Sizes.{most_line_text, most_refused_text, most_text, most_totals_text}
use Rattle.std.specs.Prelude.{Result}
use Rattle.rules.specs.declared.Refused.{Refused}
use Rattle.rules.specs.declared.Tally.{Tally}

module _ (b numbers : List ℕ) (r : Result Tally Refused) (s : Settled b most_lines numbers r) where
  -- An accepted file: its lines, then premiums and total.
  pub accepted_put : {t0 t1 t2 : List ℕ} {mid end : ℕ} (count sum premium : ℕ) → r ≡ comes_to count sum
      → premium ≡ premiums_for b (file_read b) → Put t0 t1 0 mid (lines_text (lines_from numbers count)) × (mid ≤ most_line_text * count)
      → Put t1 t2 mid end (totals_text premium sum) × (end ≤ mid + most_totals_text) → Put t0 t2 0 end (margin_text b) × (end ≤ most_text)
  unfolding margin_text
  accepted_put {t0} {t1} {t2} {mid} {end} count sum premium er ep x y =
      let few : line_count r ≤ most_lines = s.count_small in
      let these : lines_from numbers count ≡ lines_given b most_lines = ap (λ (z : Result Tally Refused). lines_from numbers (line_count z)) (sym er) ∙ s.lines_are in
      let answer : margin_answer b most_lines ≡ comes_to count sum = sym s.answer_is ∙ er in (
        subst (λ (z : Result Tally Refused). Put t0 t2 0 end (answer_text b z)) (sym answer)
            (put_then _ _ (subst (λ l. Put t0 t1 0 mid (lines_text l)) these x.0)
            (subst (λ (p : ℕ). Put t1 t2 mid end (totals_text p sum)) ep y.0)),
        omega (arith, rw er at few, x.1, y.1),
      )

  -- A refused one.
  pub refused_file_put : {t0 t1 : List ℕ} {end : ℕ} (w : Refusal) (n row : ℕ) → r ≡ refused_at w row → n ≡ number w
      → Put t0 t1 0 end (refused_text n row) × (end ≤ most_refused_text) → Put t0 t1 0 end (margin_text b) × (end ≤ most_text)
  unfolding margin_text
  refused_file_put {t0} {t1} {end} w n row er en x =
      let answer : margin_answer b most_lines ≡ refused_at w row = sym s.answer_is ∙ er in (
        subst (λ (z : Result Tally Refused). Put t0 t1 0 end (answer_text b z)) (sym answer)
            (subst (λ (m : ℕ). Put t0 t1 0 end (refused_text m row)) en x.0),
        omega (arith, x.1),
      )
