-- Document 02 [9], Contracts blocked as collateral: what is promised of every accepted file. Where the number blocked stands is
-- in `File`, its limits are in `Limits` and in `Refusals` (7 and 8), what pairing may use is `Pairs.available`, the quantity of
-- a left line `Lines.left_with_blocked`, and the contracts left for demand 3's pairs left unmade are `Promises.unpaired`.
use Rattle.std.specs.Prelude.{ℕ, ◌+◌, ◌*◌, ◌-◌, ◌≤◌, ◌<◌, List, [], ◌≡◌, length}
use Rattle.rules.specs.File.{Account}
use Rattle.rules.specs.Lines.{entries_for, lines, sum_over}
use Rattle.rules.specs.Promises.{pair_quantity}
use Rattle.rules.specs.Refusals.{accepted, meaning}

-- "Pairs use at most Q less the blocked": of every row, what the pair lines that name it take and the number blocked are
-- together at most Q. What pairs bring in, in the cover, is counted by those quantities (`Promises.line_brings_in`), so that "No
-- blocked contract" reduces "a payout in the cover".
abbrev pub Unblocked : Account → Type 0
Unblocked a =
    (r : ℕ) → r < a.positions → sum_over (pair_quantity r) (lines a) + (a.position_at r).blocked ≤ (a.position_at r).q

pub record FewLines (a : Account) : Type 0 where
  -- "there can be up to 2 × p − 1 lines where p is above 0" (that they can: `BlockedTables`),
  pub some : 0 < a.positions → length (lines a) ≤ 2 * a.positions - 1
  -- and none where it is 0.
  pub none : a.positions ≡ 0 → lines a ≡ []
  -- They fit into a list that is not refused with 12.
  pub enough : length (lines a) ≤ entries_for a.positions

-- Of a file: for whatever account its bytes mean.
abbrev pub UnblockedDemand : List ℕ → Type 0
UnblockedDemand b = (a : Account) → meaning b ≡ accepted a → Unblocked a

abbrev pub FewLinesDemand : List ℕ → Type 0
FewLinesDemand b = (a : Account) → meaning b ≡ accepted a → FewLines a
