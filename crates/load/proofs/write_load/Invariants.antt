use Rattle.load.proofs.LoadWriting.{Walked}
use Rattle.load.proofs.write_load.Given as goal

abbrev pub invariant-loop-r : goal.invariant-loop-r
invariant-loop-r l = Walked l.seed l.p l.initial.buffer l.buffer l.t l.r
