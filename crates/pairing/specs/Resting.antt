-- What the pairing rests on.
use Rattle.std.specs.Prelude.{ℕ, ◌≤◌, List, length}
use Rattle.account.specs.Known.{Known}
use Rattle.lanes.specs.Marks.{Table}
use Rattle.rules.specs.File.{account_of}
use Rattle.rules.specs.Limits.{most_positions}
use Rattle.rules.specs.declared.Layout.{Layout}

-- An accepted file, its table, and contracts left of every row.
pub record Rests (b : List ℕ) (l : Layout) (left table : List ℕ) : Type 0 where
  pub file : Known b l
  pub filled : Table (account_of b l) table
  pub lefts : most_positions ≤ length left
