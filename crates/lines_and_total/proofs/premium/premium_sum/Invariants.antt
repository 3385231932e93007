use Prim.Native.Nat.{◌*◌, ◌≤◌}
use Rattle.rules.specs.File.{account_of}
use Rattle.rules.specs.Lines.{premium_at, sum_to}
use mathlib.Core.Path.{◌≡◌}
use Rattle.lines_and_total.proofs.premium.premium_sum.Given as goal

abbrev pub invariant-loop-row : goal.invariant-loop-row
invariant-loop-row l = (l.total ≡ sum_to (premium_at (account_of l.file.bytes.now l.file.layout)) l.row) × (l.total ≤ 1_000_000_000_000_000 * l.row)
