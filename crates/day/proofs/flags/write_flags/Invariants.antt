use Rattle.rules.specs.Day.{flags_written}
use mathlib.Core.Path.{◌≡◌}
use Rattle.day.proofs.flags.write_flags.Given as goal

abbrev pub invariant-loop-r : goal.invariant-loop-r
invariant-loop-r l = l.file ≡ flags_written l.initial.file l.l l.d l.r
