use Rattle.lanes.specs.Limiters.{Nearest}
use Rattle.rules.specs.File.{account_of}
use Rattle.lanes.proofs.limiters.fill_nearest.Given as goal

abbrev pub invariant-loop-r : goal.invariant-loop-r
invariant-loop-r l = Nearest (account_of l.file.bytes.now l.file.layout) l.r l.near
