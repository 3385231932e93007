-- What document 02 [9] promises of contracts blocked as collateral, over the bytes of every file: two theorems, each after the
-- sentence that it states. The statements are in specs/Blocked.antt. That the cover, the contracts and the pairs left unmade hold
-- with them is in `Demand3`, and that they hold after any number of pairs in `InstalmentPromises`.
-- Assumes nothing.
use Prim.Native.Nat.{ℕ, ◌*◌, ◌-◌, ◌≤◌}
use mathlib.Core.List.{List, [], ◌∷◌}
use mathlib.Core.Path.{◌≡◌, refl, ap}
use native.Mathlib.Omega.{arith}
use lib.ListN.{length}
use Rattle.rules.proofs.BlockedRows.{blocked_fits}
use Rattle.rules.proofs.LineLaws.{line_count_lem, lines_are}
use Rattle.rules.proofs.PairPromises as PairPromises
use Rattle.rules.specs.Blocked.{FewLinesDemand, UnblockedDemand}
use Rattle.rules.specs.Lines.{lines}
use Rattle.rules.specs.declared.Line.{Line}

-- "Pairs use at most Q less the blocked .. No blocked contract may reduce a payout in the cover."
pub unblocked : (b : List ℕ) → UnblockedDemand b
unblocked b a e = PairPromises.unblocked a (blocked_fits b a e)

-- "there can be up to 2 × p − 1 lines where p is above 0, and refusal 12 is now given below 2 × p entries."
pub few_lines : (b : List ℕ) → FewLinesDemand b
few_lines b a e =
    record {
      some = λ above. omega (arith, count);
      none = λ zero. empty (lines a) (omega (arith, count));
      enough = omega (arith, count);
    }
  where
    count : length (lines a) ≤ 2 * a.positions - 1
    count = omega (arith, ap length (lines_are a), line_count_lem a a.positions)

    empty : (l : List Line) → length l ≤ 0 → l ≡ []
    empty [] h = refl
    empty (x ∷ l) h = absurd (omega arith)
