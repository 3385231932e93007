use Rattle.std.proofs.Common.{◌≤◌}
use denote.Param.Always.{always_mut}
use Rattle.framing.specs.Runs.{TookAll, most_files}
use Rattle.framing.proofs.for_each_file.Given as goal

abbrev pub invariant-loop : goal.invariant-loop
invariant-loop g l = always_mut g.F.FnMut l.take × TookAll g.F.FnMut l.counter l.fn.take l.take × (l.counter ≤ most_files)
